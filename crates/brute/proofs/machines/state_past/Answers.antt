-- What is beyond at a state is what is beyond of its successors, as a mask, or its observation.
use Rattle.std.proofs.Common.{arith}
use Rattle.std.proofs.lemmas.Grind.{common_steps}
use Rattle.mask.specs.Logic.{and, not, or}
use Rattle.machine.specs.Machines.{observation}
use Rattle.brute.specs.MachineLaws.{state_parts}
use Rattle.brute.proofs.machines.state_past.Goals as goal

pub returns-then-observed-ne0 : goal.returns-then-observed-ne0
unfolding observation and or not
returns-then-observed-ne0 c = rw (state_parts c.args.m.now.states c.args.m.now.observations c.args.m.now.successors c.args.s) (grind (arith, common_steps))

pub returns-else-observed-ne0 : goal.returns-else-observed-ne0
unfolding observation and or not
returns-else-observed-ne0 c = rw (state_parts c.args.m.now.states c.args.m.now.observations c.args.m.now.successors c.args.s) (grind (arith, common_steps))
