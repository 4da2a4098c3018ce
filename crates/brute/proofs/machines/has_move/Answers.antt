use Rattle.std.proofs.Common.{◌∙◌}
use Rattle.machine.specs.Machines.{moves}
use Rattle.brute.proofs.machines.has_move.Goals as goal

pub returns : goal.returns
unfolding moves
returns c = c.has.ensures ∙ rw c.successors_of.ensures
