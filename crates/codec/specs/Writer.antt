-- Document 01: what the writer writes. "The writer needs 59,392 bytes and writes only the file's own."
use Rattle.std.specs.Prelude.{Bool, List, ℕ, length, Ok}
use Rattle.machine.specs.declared.Pair.{Pair}
use Rattle.machine.specs.Refusals.{Tested, and_then, buffer_after, buffer_validity, Answer}
use Rattle.machine.specs.Machines.{n_c, n_a, sets_c, sets_a}
use Rattle.machine.specs.WellFormed.{nonempty_validity}
use Rattle.machine.specs.Table.{table_room}
use Rattle.codec.specs.Format.{file_length, file_of}

-- the room that a file of any counts takes
abbrev pub file_room : ℕ
file_room = 59392

-- all that the writer tests: 1 of both lent buffers, then 5, 9 to 11 and 21
unfoldable pub write_validity : Pair → ℕ → ℕ → Tested
write_validity p table_len buffer_len = and_then (buffer_validity table_room table_len) (and_then (buffer_validity file_room buffer_len) (nonempty_validity p))

-- the writer's whole answer: the file's length in bytes, or a refusal
unfoldable pub write_answer : Pair → Bool → List ℕ → List ℕ → Answer ℕ
write_answer p note T buffer = and_then (write_validity p (length T) (length buffer)) (Ok (file_length (n_c p) (n_a p) (sets_c p) (sets_a p) note))

-- the buffer's final content
unfoldable pub write_buffer : Pair → Bool → List ℕ → List ℕ → List ℕ
write_buffer p note T buffer = buffer_after (write_validity p (length T) (length buffer)) (file_of p note T) buffer
