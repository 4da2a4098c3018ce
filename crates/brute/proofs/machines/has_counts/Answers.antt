use Rattle.std.proofs.Common.{arith}
use Rattle.std.proofs.lemmas.Grind.{common_steps}
use Rattle.mask.specs.Logic.{and}
use Rattle.machine.specs.WellFormed.{counts_ok}
use Rattle.brute.proofs.machines.has_counts.Goals as goal

pub returns-then-m-ge1-2 : goal.returns-then-m-ge1-2
unfolding counts_ok and
returns-then-m-ge1-2 c = grind (arith, common_steps)

pub returns-else-m-ge1-2 : goal.returns-else-m-ge1-2
unfolding counts_ok and
returns-else-m-ge1-2 c = grind (arith, common_steps)
