-- The text of one machine of a file: what is said, and what is left in the lent buffer. The file's machines are read, and a table that it has is
-- not looked at.
use Rattle.std.specs.Prelude.{cond, List, ℕ, eqb, ltb, length, Err, Ok}
use Rattle.machine.specs.declared.Machine.{Machine}
use Rattle.machine.specs.Refusals.{Tested, valid, and_then, buffer_validity, buffer_after, Answer}
use Rattle.machine.specs.Table.{table_room}
use Rattle.codec.specs.Reader.{pair_of, read_validity}
use Rattle.hanoi.specs.Text.{text_room, hoa_text}
use Rattle.machine.specs.declared.Refusal.TheVariants.{OutOfRange}

-- "rig (0), score (1)": which machine of a file
unfoldable pub machine_in : List ℕ → ℕ → Machine
machine_in f which = cond (eqb which 0) (pair_of f).concrete (pair_of f).abstraction

-- 20: a number that is neither
unfoldable pub which_validity : ℕ → Tested
which_validity which = cond (ltb which 2) valid (Err OutOfRange)

-- all that is tested: 1 of the lent buffer, then all that the reader tests, then 20. Machines that were read are well formed, so that 5 and 9 to 11 are
-- the reader's.
unfoldable pub export_validity : List ℕ → ℕ → ℕ → Tested
export_validity f which room = and_then (buffer_validity text_room room) (and_then (read_validity f table_room) (which_validity which))

-- the text's length, or a refusal
unfoldable pub export_answer : List ℕ → ℕ → ℕ → Answer ℕ
export_answer f which room = and_then (export_validity f which room) (Ok (length (hoa_text (machine_in f which))))

-- the lent buffer's final content
unfoldable pub export_buffer : List ℕ → ℕ → List ℕ → List ℕ
export_buffer f which buffer = buffer_after (export_validity f which (length buffer)) (hoa_text (machine_in f which)) buffer
