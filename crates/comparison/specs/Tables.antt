-- The check beside the plain reading, on numbered tables.
use Rattle.std.specs.Prelude.{ℕ, ◌+◌, ◌/◌, ◌%◌, Bool, true, false, cond, List, length, replicate, ◌==◌, nat_lt, slice_index, Ok, Err}
use Rattle.std.specs.Result.{is_ok}
use Rattle.mask.specs.Bounded.{every}
use Rattle.mask.specs.Logic.{not, and, or}
use Rattle.mask.specs.Tables.{table}
use Rattle.machine.specs.declared.Pair.{Pair}
use Rattle.machine.specs.declared.Checked.{Checked}
use Rattle.machine.specs.declared.Verdict.{Verdict}
use Rattle.machine.specs.declared.Verdict.TheVariants.{Carried, NotCarried}
use Rattle.machine.specs.Refusals.{Answer}
use Rattle.machine.specs.Table.{blank, table_room}
use Rattle.machine.specs.Verdict.{empty_set_of}
use Rattle.brute.specs.Numbers.{entry_of, numbered_table}
use Rattle.comparison.specs.declared.tables.Tables.{Tables}
use Rattle.comparison.specs.declared.tables.Tables.TheVariants.{Every, Altered}
use Rattle.comparison.specs.declared.tally.Tally.{Tally}
use Rattle.comparison.specs.Answers.{same_answer, same_checked, check_answer}
use Rattle.comparison.specs.Tallies.{of_table}

-- a table or a run's buffer, as it is lent; both have the same room
abbrev pub zeros : List ℕ
zeros = replicate table_room 0

-- of n entries, S covers each that T covers
unfoldable pub within : ℕ → List ℕ → List ℕ → Bool
within n T S = every n (λ e. or (slice_index T e == blank) (not (slice_index S e == blank)))

unfoldable pub is_carried : Verdict → Bool
is_carried (Carried count) = true
is_carried (NotCarried c count) = false

-- what is said of a table: that it is Carried
unfoldable pub says_carried : Answer Checked → Bool
says_carried (Ok c) = is_carried c.verdict
says_carried (Err r) = false

-- two answers about T are the same, and S covers it if it passes
unfoldable pub table_agrees : ℕ → Answer Checked → Answer Checked → List ℕ → List ℕ → Bool
table_agrees n x y S T = and (same_answer same_checked x y) (or (not (is_ok x)) (within n T S))

-- one table T of n entries, S being the solver's, or of a pair that the solver refuses the lifted one; the contracts of check and plain reading
-- have the same answer
unfoldable pub table_tally : Pair → ℕ → List ℕ → List ℕ → Tally
table_tally p n S T =
    let v = check_answer p T in
    of_table (is_ok v) (says_carried v) (empty_set_of v) (table_agrees n v v S T)

-- the n entries of S, entry x / (top + 1) changed to what digit x % (top + 1) stands for, laid over the front of T
unfoldable pub altered : ℕ → ℕ → ℕ → List ℕ → List ℕ → List ℕ
altered top x n S T =
    table (length T) (λ e. cond (nat_lt e n) (cond (e == x / (top + 1)) (entry_of (x % (top + 1))) (slice_index S e)) (slice_index T e))

-- table number x: one of all tables, or S with one entry changed
unfoldable pub tried_table : Tables → ℕ → ℕ → List ℕ → ℕ → List ℕ → List ℕ
tried_table Every top n S x T = numbered_table top x n T
tried_table Altered top n S x T = altered top x n S T
