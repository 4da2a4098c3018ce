use Rattle.std.proofs.Common.{arith}
use Rattle.std.proofs.lemmas.Grind.{common_steps}
use Rattle.mask.specs.Logic.{and}
use Rattle.brute.specs.Families.{row_number}
use Rattle.brute.proofs.families.row_number.Goals as goal

pub returns-then-c-width : goal.returns-then-c-width
unfolding row_number and
returns-then-c-width c = grind (arith, common_steps)

pub returns-else-j-sections : goal.returns-else-j-sections
unfolding row_number and
returns-else-j-sections c = grind (arith, common_steps)
