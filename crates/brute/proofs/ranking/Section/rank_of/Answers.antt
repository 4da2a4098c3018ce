use Rattle.std.proofs.Common.{arith}
use Rattle.std.proofs.lemmas.Grind.{common_steps}
use Rattle.mask.specs.Logic.{and}
use Rattle.brute.specs.Ranking.{rank_of}
use Rattle.brute.proofs.WellLaws.{well_of}
use Rattle.brute.proofs.ranking.Section.rank_of.Goals as goal

pub nonzero_div-c : goal.nonzero_div-c
nonzero_div-c c = let w = well_of c.args.self.now.lifted in omega (arith, w.abstraction.states_low)

pub nonzero_rem-a : goal.nonzero_rem-a
nonzero_rem-a c = let w = well_of c.args.self.now.lifted in omega (arith, w.abstraction.states_low)

pub returns-then-goal_holds : goal.returns-then-goal_holds
unfolding rank_of and
returns-then-goal_holds c = grind (arith, common_steps)

pub returns-else-is_matched : goal.returns-else-is_matched
unfolding rank_of and
returns-else-is_matched c = grind (arith, common_steps)
