-- Document 02, No. 6, for the eye: a line for each turn, with how many pairs are still in, section by section, and a line for the finish.
use Rattle.std.specs.Prelude.{List, [], ◌∷◌, ◌++◌, ℕ, zero, suc, ◌+◌, ◌*◌, min, get_or}
use Rattle.std.specs.Int.Bits.{bit_and}
use Rattle.mask.specs.Bits.{has_bit}
use Rattle.mask.specs.Bounded.{sum, count}
use Rattle.text.specs.Decimal.{decimal}
use Rattle.machine.specs.declared.Pair.{Pair}
use Rattle.machine.specs.Machines.{n_c, n_a, sets_a}
use Rattle.report.specs.Text.{blank_space, line_feed}
use Rattle.progress.specs.Turns.{still_in}

-- how many pairs are still in section j, counted from 0
unfoldable pub still_count : Pair → List ℕ → ℕ → ℕ
still_count p F j = sum (n_c p) (λ c. count (n_a p) (still_in p F j c))

-- f 0, .., f (n - 1), a blank before each
unfoldable pub numbers_text : ℕ → (ℕ → ℕ) → List ℕ
numbers_text zero f = []
numbers_text (suc n) f = numbers_text n f ++ (blank_space ++ decimal (f n))

-- "turn "
abbrev pub turn_text : List ℕ
turn_text = 116 ∷ 117 ∷ 114 ∷ 110 ∷ 32 ∷ []

-- "finished "
abbrev pub finished_text : List ℕ
finished_text = 102 ∷ 105 ∷ 110 ∷ 105 ∷ 115 ∷ 104 ∷ 101 ∷ 100 ∷ 32 ∷ []

-- "turn T", and how many pairs are still in, for each section of the family; a family has at most 7
unfoldable pub turn_line : Pair → ℕ → List ℕ → List ℕ
turn_line p t F = turn_text ++ decimal t ++ numbers_text (min (sets_a p) 7) (still_count p F) ++ line_feed

-- "finished T"
unfoldable pub finished_line : ℕ → List ℕ
finished_line t = finished_text ++ decimal t ++ line_feed

-- how many bits of row c of section j are in row c of M, and of all its rows
abbrev pub row_count : List ℕ → List ℕ → ℕ → ℕ → ℕ
row_count M F j c = count 64 (has_bit (bit_and (get_or F (j * 64 + c) 0) (get_or M c 0)))

unfoldable pub rows_count : List ℕ → List ℕ → ℕ → ℕ
rows_count M F j = sum 64 (row_count M F j)
