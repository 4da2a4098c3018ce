use Rattle.std.proofs.Common.{arith}
use Rattle.std.proofs.lemmas.Grind.{common_steps}
use Rattle.mask.specs.Logic.{and}
use Rattle.brute.specs.Families.{is_pair}
use Rattle.brute.proofs.families.is_pair.Goals as goal

pub returns-then-a-abstraction : goal.returns-then-a-abstraction
unfolding is_pair and
returns-then-a-abstraction c = grind (arith, common_steps)

pub returns-else-a-abstraction : goal.returns-else-a-abstraction
unfolding is_pair and
returns-else-a-abstraction c = grind (arith, common_steps)
