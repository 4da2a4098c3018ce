use mathlib.Core.Path.{refl}
use Rattle.codec.specs.Reader.{zero_machine}
use Rattle.codec.proofs.reader.zero_machine.Goals as goal

pub returns : goal.returns
unfolding zero_machine
returns c = refl
