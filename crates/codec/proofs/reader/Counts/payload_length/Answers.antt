-- The counts are bytes, so the sum is small.
use native.Mathlib.Omega.{arith}
use Rattle.codec.specs.Format.{payload_length}
use Rattle.codec.proofs.reader.Counts.payload_length.Goals as goal

pub returns-then-note : goal.returns-then-note
unfolding payload_length
returns-then-note c = record { value = rw c.if-note.true (omega (arith, c.entries.ensures)); small = omega (arith, c.entries.ensures) }

pub returns-else-note : goal.returns-else-note
unfolding payload_length
returns-else-note c = record { value = rw c.if-note.false (omega arith); small = omega arith }
