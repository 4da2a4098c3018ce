use mathlib.Core.Path.{refl}
use Rattle.machine.specs.Numbers.{four_of}
use Rattle.machine.proofs.NumbersNumbered.four.Goals as goal

pub returns : goal.returns
unfolding four_of
returns c = refl
