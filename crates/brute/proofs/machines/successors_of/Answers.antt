use Rattle.machine.specs.Machines.{successors}
use Rattle.brute.proofs.machines.successors_of.Goals as goal

pub returns : goal.returns
unfolding successors
returns c = c.element_or.ensures
