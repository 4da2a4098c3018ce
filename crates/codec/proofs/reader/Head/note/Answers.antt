-- The byte of the header is compared as the definition compares it.
use Prim.Native.Nat.{ℕ}
use mathlib.Core.Path.{ap}
use lib.Dec.{eqb}
use Rattle.codec.specs.Reader.{note_of}
use Rattle.codec.proofs.reader.Head.note.Goals as goal

pub returns : goal.returns
unfolding note_of
returns c = ap (λ (x : ℕ). eqb x 1) c.byte.ensures
