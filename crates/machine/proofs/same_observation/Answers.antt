use mathlib.Core.Path.{refl}
use Rattle.machine.specs.Machines.{same_observation}
use Rattle.machine.proofs.same_observation.Goals as goal

pub returns : goal.returns
unfolding same_observation
returns c = refl
