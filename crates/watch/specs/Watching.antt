-- The solver by turns on a file's bytes: what is said, and what is left in the lent family and table. The file's machines are read, and a table
-- that it has is not looked at.
use Rattle.std.specs.Prelude.{Bool, true, false, List, ℕ, length, replicate, Err, Ok}
use Rattle.machine.specs.declared.Pair.{Pair}
use Rattle.machine.specs.Refusals.{Tested, and_then, state_after, buffer_validity, Answer}
use Rattle.machine.specs.WellFormed.{nonempty_validity}
use Rattle.machine.specs.Table.{table_room}
use Rattle.codec.specs.Reader.{pair_of, read_validity}
use Rattle.solver.specs.Families.{turn_rows}
use Rattle.progress.specs.Turns.{first_rows, turn_answer, turn_table, look_up_answer}

-- the machines: the reader's refusals come first
unfoldable pub machines_read : List ℕ → Answer Pair
machines_read f = and_then (read_validity f table_room) (Ok (pair_of f))

-- the first family: the reader's refusals, then 21
unfoldable pub first_file : List ℕ → Tested
first_file f = and_then (read_validity f table_room) (nonempty_validity (pair_of f))

-- what the call says: these, or the family
unfoldable pub first_file_answer : List ℕ → Answer (List ℕ)
first_file_answer f = and_then (first_file f) (Ok (first_rows (pair_of f)))

-- what the call gives: zeros beside a refusal
unfoldable pub first_file_given : List ℕ → List ℕ
first_file_given f = state_after (first_file f) (first_rows (pair_of f)) (replicate 448 0)

-- for C: the lent family's final content
unfoldable pub first_file_rows : List ℕ → List ℕ → List ℕ
first_file_rows f F = state_after (first_file f) (first_rows (pair_of f)) F

-- a turn: 1 of the lent table before all else, then the reader's refusals, then what a turn over the machines says
unfoldable pub turn_file : List ℕ → List ℕ → ℕ → Answer Bool
turn_file f F room = and_then (buffer_validity table_room room) (and_then (read_validity f table_room) (turn_answer (pair_of f) F room))

-- the family's final content, and the lent table's: beside a refusal as they were
unfoldable pub turn_file_rows : List ℕ → List ℕ → ℕ → List ℕ
turn_file_rows f F room = state_after (turn_file f F room) (turn_rows (pair_of f) F) F

unfoldable pub turn_file_table : List ℕ → List ℕ → List ℕ → List ℕ
turn_file_table f F T = state_after (turn_file f F (length T)) (turn_table (pair_of f) F T) T

-- a look-up: the reader's refusals, then 21, then 20
unfoldable pub look_up_file : List ℕ → List ℕ → ℕ → ℕ → ℕ → Answer Bool
look_up_file f F j c a = and_then (read_validity f table_room) (look_up_answer (pair_of f) F j c a)

-- for C: 1, or 0 beside a refusal
unfoldable pub ready_number : Tested → ℕ
ready_number (Ok t) = 1
ready_number (Err r) = 0

-- for C: 2 for finished and for still in, 1 for not finished and for struck out, 0 beside a refusal
unfoldable pub told_number : Answer Bool → ℕ
told_number (Ok true) = 2
told_number (Ok false) = 1
told_number (Err r) = 0
