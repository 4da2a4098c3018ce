-- The places at the two loop starts are compared, the state before the section.
use Rattle.std.proofs.Common.{arith}
use Rattle.std.proofs.lemmas.Grind.{common_steps}
use Rattle.mask.specs.Logic.{and}
use Rattle.brute.specs.Given.{lent}
use Rattle.brute.specs.ScanLaws.{place_told}
use Rattle.brute.proofs.runs.Rounds.same_place.Goals as goal

pub returns : goal.returns
unfolding and
returns c =
    let a = c.args in
    rw (place_told a.self.now.tabled.pair.now a.self.now.tabled.table.now (lent a.self.now.lasso) a.x a.y _ _ c.place_after.ensures c.place_after-2.ensures) (grind (arith, common_steps))
