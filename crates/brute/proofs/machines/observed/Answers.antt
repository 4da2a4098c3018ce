use Rattle.machine.specs.Machines.{observation}
use Rattle.brute.proofs.machines.observed.Goals as goal

pub returns : goal.returns
unfolding observation
returns c = c.element_or.ensures
