-- What is said of a file's bytes by a call on machines and table: the reader's refusals come first, and a file may have no table.
use Rattle.std.specs.Prelude.{true, false, List, ℕ, replicate, Ok, Option, Some, None}
use Rattle.machine.specs.declared.Pair.{Pair}
use Rattle.machine.specs.Refusals.{pass_on, Answer}
use Rattle.machine.specs.Table.{table_room}
use Rattle.codec.specs.Reader.{Taken, taken, read_answer, read_table}

-- the table that is read from the file; a table of zeros is lent
abbrev pub table_in : List ℕ → List ℕ
table_in f = read_table f (replicate table_room 0)

module _ {A : Type 0} (call : Pair → List ℕ → Answer A) where
  -- after reading, with the table that was read: what the call says, or that there is no table
  unfoldable pub outcome_after : List ℕ → Taken → Answer (Option A)
  outcome_after T (taken p true) = pass_on (call p T) (λ a. Ok (Some a))
  outcome_after T (taken p false) = Ok None

  -- the whole, for the file f
  unfoldable pub outcome_by : List ℕ → Answer (Option A)
  outcome_by f = pass_on (read_answer f (replicate table_room 0)) (outcome_after (table_in f))
