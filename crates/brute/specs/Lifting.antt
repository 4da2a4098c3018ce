-- Lifting: a table is raised from 0 until each line passes.
use Rattle.std.specs.Prelude.{Bool, cond, List, ℕ, zero, suc, ◌+◌, ◌*◌, ◌/◌, ◌%◌, length, get_or, set, replicate, ltb}
use Rattle.machine.specs.declared.Pair.{Pair}
use Rattle.machine.specs.Machines.{n_a, sets_c, pairs}
use Rattle.machine.specs.Refusals.{and_then, buffer_validity, buffer_after}
use Rattle.machine.specs.WellFormed.{pair_validity}
use Rattle.machine.specs.Table.{blank, entries, table_room}
use Rattle.machine.specs.Lines.{passes, passes_each}

-- the entry after r: one more, and blank after the greatest rank
unfoldable pub raised : ℕ → ℕ → ℕ
raised most r = cond (ltb r most) (r + 1) blank

module _ (p : Pair) where
  -- entry number e passes its line
  unfoldable pub entry_passes : ℕ → List ℕ → Bool
  entry_passes e T = passes p T (e / pairs p) (e % pairs p / n_a p) (e % n_a p)

  -- entry number e raised where it fails
  unfoldable pub lifted_at : ℕ → List ℕ → List ℕ
  lifted_at e T = cond (entry_passes e T) T (set T e (raised (sets_c p * pairs p) (get_or T e 0)))

  -- the first n entries, one after the other
  unfoldable pub swept : ℕ → List ℕ → List ℕ
  swept zero T = T
  swept (suc n) T = lifted_at n (swept n T)

  -- swept until each line passes, at most n times
  unfoldable pub lifted : ℕ → List ℕ → List ℕ
  lifted zero T = T
  lifted (suc n) T = let later = lifted n (swept (entries p) T) in cond (passes_each p T) T later

  -- n × P entries lifted from 0
  unfoldable pub lifted_entries : List ℕ
  lifted_entries = lifted (entries p * (sets_c p * pairs p + 2)) (replicate (entries p) 0)

-- the final content of a lent table; one that is short and one of machines that are not well formed are kept
unfoldable pub lifted_table : Pair → List ℕ → List ℕ
lifted_table p T = buffer_after (and_then (buffer_validity table_room (length T)) (pair_validity p)) (lifted_entries p) T
