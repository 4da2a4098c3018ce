-- Families of sets of pairs as 448 masks, row j × 64 + c: what one holds, as a table, and families from numbers.
use Rattle.std.specs.Prelude.{Bool, cond, List, ℕ, ◌+◌, ◌*◌, ◌/◌, ◌%◌, length, get_or, ltb}
use Rattle.mask.specs.Bits.{has_bit}
use Rattle.mask.specs.Bounded.{every}
use Rattle.mask.specs.Logic.{not, and, or}
use Rattle.mask.specs.Tables.{table}
use Rattle.machine.specs.declared.Pair.{Pair}
use Rattle.machine.specs.Machines.{matched, n_c, n_a, sets_a, pairs}
use Rattle.machine.specs.Refusals.{and_then, buffer_validity, buffer_after}
use Rattle.machine.specs.WellFormed.{pair_validity}
use Rattle.machine.specs.Table.{blank, entries, table_room}
use Rattle.brute.specs.Numbers.{digit_of}

module _ (p : Pair) where
  -- (c, a) is a matched pair of the machines, and j one of their sections
  unfoldable pub is_pair : ℕ → ℕ → ℕ → Bool
  is_pair j c a = and (ltb j (sets_a p)) (and (ltb c (n_c p)) (and (ltb a (n_a p)) (matched p c a)))

  -- each bit stands for such a pair
  unfoldable pub holds_pairs : List ℕ → Bool
  holds_pairs F = every 448 (λ e. every 64 (λ a. or (not (has_bit (get_or F e 0) a)) (is_pair (e / 64) (e % 64) a)))

  -- entry number e: 0 for a matched pair whose bit is set, and else blank
  unfoldable pub family_entry : List ℕ → ℕ → ℕ
  family_entry F e =
      let c = e % pairs p / n_a p in
      let a = e % n_a p in
      cond (and (matched p c a) (has_bit (get_or F (e / pairs p * 64 + c) 0) a)) 0 blank

-- the final content of a lent table; one that is short and one of machines that are not well formed are kept
unfoldable pub family_table : Pair → List ℕ → List ℕ → List ℕ
family_table p F T = buffer_after (and_then (buffer_validity table_room (length T)) (pair_validity p)) (table (entries p) (family_entry p F)) T

-- the number of row e among those of n sections and nC concrete states; that after the last for any other row
unfoldable pub row_number : ℕ → ℕ → ℕ → ℕ
row_number n nc e = cond (and (ltb (e / 64) n) (ltb (e % 64) nc)) (e / 64 * nc + e % 64) (n * nc)

-- family number x: each row of these is a digit of it, and all other rows are the digit after these
unfoldable pub numbered_family : ℕ → ℕ → ℕ → ℕ → List ℕ
numbered_family n nc top x = table 448 (λ e. digit_of top x (row_number n nc e))
