-- Document 01, "The game", last part: tables, whoever made them.
use Rattle.std.specs.Prelude.{Bool, List, ◌≡◌, ℕ, ◌+◌, ◌*◌, ◌%◌, ◌<◌, length, get_or, eqb}
use Rattle.mask.specs.Logic.{not}
use Rattle.mask.specs.Bounded.{count}
use Rattle.machine.specs.declared.Pair.{Pair}
use Rattle.machine.specs.Machines.{n_c, n_a, sets_a, pairs}

-- "else blank, 65,535"
abbrev pub blank : ℕ
blank = 65535

-- "Lent tables have 28,672 entries or more (7 × 64 × 64)"
abbrev pub table_room : ℕ
table_room = 28672

-- "entry ((j − 1) × nC + c) × nA + a", section j from 0 here
unfoldable pub entry_index : ℕ → ℕ → ℕ → ℕ → ℕ → ℕ
entry_index n_c n_a j c a = (j * n_c + c) * n_a + a

-- the same for numbers of any size, each taken modulo 256: counts, sections and states are less
unfoldable pub place_of : ℕ → ℕ → ℕ → ℕ → ℕ → ℕ
place_of n_c n_a j c a = entry_index (n_c % 256) (n_a % 256) (j % 256) (c % 256) (a % 256)

unfoldable pub entry : Pair → List ℕ → ℕ → ℕ → ℕ → ℕ
entry p T j c a = get_or T (entry_index (n_c p) (n_a p) j c a) 0

-- "It covers, in section j, the pairs whose entry there is not blank."
unfoldable pub covers : Pair → List ℕ → ℕ → ℕ → ℕ → Bool
covers p T j c a = not (eqb (entry p T j c a) blank)

-- "n × P entries"
abbrev pub entries : Pair → ℕ
entries p = sets_a p * pairs p

-- "the number of non-blank entries, all sections counted"
unfoldable pub covered_count : Pair → List ℕ → ℕ
covered_count p T = count (entries p) (λ e. not (eqb (get_or T e 0) blank))

-- "16 bits": what the types of the code give of the entries of a lent table
abbrev pub AreEntries : List ℕ → Type 0
AreEntries T = (e : ℕ) → get_or T e 0 < 65536

-- "A table of two machines is any n × P entries, whoever made them."
abbrev pub IsTable : Pair → List ℕ → Type 0
IsTable p T = (length T ≡ entries p) × AreEntries T

-- two tables have the same n × P entries, whatever stands after them
abbrev pub SameEntries : Pair → List ℕ → List ℕ → Type 0
SameEntries p T U = (e : ℕ) → e < entries p → get_or T e 0 ≡ get_or U e 0
