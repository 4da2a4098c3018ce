use Rattle.std.proofs.Common.{arith}
use Rattle.std.proofs.lemmas.Grind.{common_steps}
use Rattle.mask.specs.Logic.{and, not, or}
use Rattle.brute.specs.Ranking.{keeps}
use Rattle.brute.proofs.ranking.Section.is_kept.Goals as goal

pub returns-then-steps_into : goal.returns-then-steps_into
unfolding keeps and or not
returns-then-steps_into c = grind (arith, common_steps)

pub returns-then-not-in_set : goal.returns-then-not-in_set
unfolding keeps and or not
returns-then-not-in_set c = grind (arith, common_steps)

pub returns-else-not-in_set : goal.returns-else-not-in_set
unfolding keeps and or not
returns-else-not-in_set c = grind (arith, common_steps)

pub returns-else-is_matched : goal.returns-else-is_matched
unfolding keeps and or not
returns-else-is_matched c = grind (arith, common_steps)
