-- Entries of a section and sets of pairs: the pairs up to a bound, and an entry for each pair of a set.
use Rattle.std.specs.Prelude.{cond, List, ℕ, ◌+◌, ◌*◌, ◌/◌, ◌%◌, eqb, ltb, leb, length, get_or}
use Rattle.std.specs.Int.Bits.{bit_and, bit_xor}
use Rattle.mask.specs.Bits.{has_bit}
use Rattle.mask.specs.Tables.{mask_of, table}

-- the states whose entry in a row is at most the bound
unfoldable pub row_upto : List ℕ → ℕ → ℕ
row_upto row bound = mask_of (length row) (λ a. leb (get_or row a 0) bound)

-- the pairs of a section whose entry is at most the bound
unfoldable pub upto_rows : ℕ → ℕ → List ℕ → ℕ → List ℕ
upto_rows n_c n_a part bound = table 64 (λ c. let row = mask_of n_a (λ a. leb (get_or part (c * n_a + a) 0) bound) in cond (ltb c n_c) row 0)

-- how many rows entries have: nC where they are a section of nC by nA pairs, of at most 64 by 64, and else none
unfoldable pub row_count : ℕ → ℕ → ℕ → ℕ
row_count n_c n_a entries = cond (leb n_c 64) (cond (leb n_a 64) (cond (eqb entries (n_c * n_a)) n_c 0) 0) 0

-- the same of any entries: none where they are no section of nC by nA
unfoldable pub upto_of : ℕ → ℕ → List ℕ → ℕ → List ℕ
upto_of n_c n_a part bound = upto_rows (row_count n_c n_a (length part)) n_a part bound

-- the states of x that are not in y
unfoldable pub without : ℕ → ℕ → ℕ
without x y = bit_xor x (bit_and x y)

-- a part of a table with the entry v for each state of the row
unfoldable pub write_row : ℕ → ℕ → List ℕ → List ℕ
write_row row v part = table (length part) (λ a. cond (has_bit row a) v (get_or part a 0))

-- a section of a table with the entry v for each pair of x that is not in y
unfoldable pub write_rows : ℕ → List ℕ → List ℕ → ℕ → List ℕ → List ℕ
write_rows n_a x y v part = table (length part) (λ e. cond (has_bit (without (get_or x (e / n_a) 0) (get_or y (e / n_a) 0)) (e % n_a)) v (get_or part e 0))

-- the same of any entries: as they are where they are no section of nC by nA
unfoldable pub write_of : ℕ → ℕ → List ℕ → List ℕ → ℕ → List ℕ → List ℕ
write_of n_c n_a x y v part = cond (eqb (row_count n_c n_a (length part)) 0) part (write_rows n_a x y v part)
