-- The header lies in the first block, behind its number.
use mathlib.Core.Path.{refl}
use Rattle.codec.specs.Reader.{header_byte}
use Rattle.codec.proofs.reader.Head.byte.Goals as goal

pub returns : goal.returns
unfolding header_byte
returns c = refl
