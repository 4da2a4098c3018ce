use Rattle.std.proofs.Common.{ap}
use Rattle.brute.specs.Comparing.{is_exact}
use Rattle.brute.specs.RankingLaws.{shown_all, shown_blank, shown_covered}
use Rattle.brute.proofs.ranking.shown.Goals as goal

pub returns-in-Ranks : goal.returns-in-Ranks
returns-in-Ranks c = let x = c.args in shown_all (is_exact x.compared) x.e (ap is_exact c.in-Ranks.is)

pub returns-in-Covered : goal.returns-in-Covered
returns-in-Covered c = let x = c.args in shown_blank (is_exact x.compared) x.e (ap is_exact c.in-Covered.is) c.if-e-eq-BLANK.true

pub returns-in-Covered-2 : goal.returns-in-Covered-2
returns-in-Covered-2 c = let x = c.args in shown_covered (is_exact x.compared) x.e (ap is_exact c.in-Covered.is) c.if-e-eq-BLANK.false
