use Rattle.machine.specs.Machines.{starts}
use Rattle.brute.proofs.machines.has_start.Goals as goal

pub returns : goal.returns
unfolding starts
returns c = c.has.ensures
