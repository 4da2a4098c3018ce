use mathlib.Core.Path.{refl}
use Rattle.machine.proofs.refuse.Goals as goal

pub returns : goal.returns
returns c = refl
