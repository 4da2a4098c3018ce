-- How the solver makes the ranks of a section: set by set of the tower X(1, 1), .., X(1, m), X(2, 1), .., each from the pairs whose entry
-- so far lets them be in it.
use Rattle.std.specs.Prelude.{true, false, List, [], ◌≡◌, ℕ, ◌+◌, ◌*◌, ◌≤◌, ◌<◌, length, get_or}
use Rattle.mask.specs.Logic.{or}
use Rattle.mask.specs.Bounded.{some}
use Rattle.machine.specs.declared.Pair.{Pair}
use Rattle.machine.specs.Machines.{n_c, n_a, sets_c, matched, pairs}
use Rattle.machine.specs.Game.{pair_set, mem, level}
use Rattle.machine.specs.Ranks.{tower, rank_in}
use Rattle.machine.specs.Table.{blank}
use Rattle.machine.specs.Observed.{matched_masks}
use Rattle.machine.specs.WellFormed.{well_formed}
use Rattle.rows.specs.Rows.{rows_of, pairs_in, abstract_predecessors, concrete_predecessors}

-- what is computed once of two machines
pub record Prepared (p : Pair) (matched dependents predecessors : List ℕ) : Type 0 where
  pub well : well_formed p ≡ true
  pub matched_are : matched ≡ matched_masks p
  pub dependents_are : dependents ≡ concrete_predecessors p
  pub predecessors_are : predecessors ≡ abstract_predecessors p

-- the rank of a pair over any goals: the ranks of section j are those over its goals in the family
unfoldable pub rank_over : Pair → List ℕ → ℕ → ℕ → ℕ
rank_over p goals c a = rank_in p goals (tower p goals) c a

-- the goals, and the pairs of the first i sets of the tower
unfoldable pub seen_upto : Pair → List ℕ → ℕ → List ℕ
seen_upto p goals i = pair_set p (λ c a. or (mem p goals c a) (some i (λ e. mem p (get_or (tower p goals) e []) c a)))

-- rows that hold matched pairs and nothing else
pub record Holds (p : Pair) (rows : List ℕ) : Type 0 where
  pub only_matched : pairs_in p rows ≡ pair_set p (mem p (pairs_in p rows))
  pub only_rows : rows ≡ rows_of (pairs_in p rows)

-- the entry of a pair in a section
abbrev pub entry_of : Pair → List ℕ → ℕ → ℕ → ℕ
entry_of p part c a = get_or part (c * n_a p + a) 0

-- entries that no rank over the goals is below, blank for unmatched pairs: what a section's ranks are made from
pub record Bounded (p : Pair) (goals part : List ℕ) : Type 0 where
  pub long : length part ≡ pairs p
  pub low : (c a : ℕ) → c < n_c p → a < n_a p → entry_of p part c a ≤ rank_over p goals c a
  pub unmatched : (c a : ℕ) → c < n_c p → a < n_a p → matched p c a ≡ false → entry_of p part c a ≡ blank

-- the same, and entries are the ranks where these are at most i; since `first` no blank has come or gone
pub record RankedTo (p : Pair) (goals first : List ℕ) (i : ℕ) (part : List ℕ) : Type 0 where
  pub bounded : Bounded p goals part
  pub final : (c a : ℕ) → c < n_c p → a < n_a p → rank_over p goals c a ≤ i → entry_of p part c a ≡ rank_over p goals c a
  pub blank_kept : (c a : ℕ) → c < n_c p → a < n_a p → entry_of p first c a ≡ blank → entry_of p part c a ≡ blank
  pub blank_old : (c a : ℕ) → c < n_c p → a < n_a p → entry_of p part c a ≡ blank → entry_of p first c a ≡ blank

-- level l is reached: the rows are its pairs, and these have their ranks
pub record LevelReached (p : Pair) (goals first : List ℕ) (l : ℕ) (rows part : List ℕ) : Type 0 where
  pub rows_are : rows ≡ rows_of (level p goals l)
  pub ranked : RankedTo p goals first (l * sets_c p) part

-- each entry is its pair's rank
pub record AreRanks (p : Pair) (goals part : List ℕ) : Type 0 where
  pub long : length part ≡ pairs p
  pub ranks : (c a : ℕ) → c < n_c p → a < n_a p → entry_of p part c a ≡ rank_over p goals c a

-- a level after k of its sets: the pairs that have a rank, and the entries
pub record LevelMade (p : Pair) (goals first : List ℕ) (l k : ℕ) (seen part : List ℕ) : Type 0 where
  pub seen_are : seen ≡ rows_of (seen_upto p goals (l * sets_c p + k))
  pub ranked : RankedTo p goals first (l * sets_c p + k) part
