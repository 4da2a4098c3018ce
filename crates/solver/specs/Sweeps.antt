-- How the solver makes the table: section after section in place, while some section's goals may have changed since it was made; and a turn, which makes
-- each section once.
use Rattle.std.specs.Prelude.{Bool, true, false, cond, List, [], ◌⊎◌, ◌≡◌, ℕ, ◌+◌, ◌-◌, ◌*◌, ◌/◌, ◌%◌, ◌^◌, ◌≤◌, ◌<◌, length, get_or, take, drop}
use Rattle.mask.specs.Bits.{has_bit}
use Rattle.mask.specs.Tables.{table}
use Rattle.machine.specs.declared.Pair.{Pair}
use Rattle.machine.specs.Machines.{sets_a, pairs}
use Rattle.machine.specs.Game.{pair_set, goals, levels, family}
use Rattle.machine.specs.Table.{blank, table_room, covers, entries}
use Rattle.theory.specs.Statements.{Within}
use Rattle.solver.specs.Ranking.{Bounded, AreRanks}

-- the first j sections, of P entries each, have their first entries, 0 for matched pairs and else blank, and the rest is as it was
pub record Begun (P n_a : ℕ) (matched first : List ℕ) (j : ℕ) (T : List ℕ) : Type 0 where
  pub long : length T ≡ length first
  pub begun : (i e : ℕ) → i < j → e < P → get_or T (i * P + e) 0 ≡ cond (has_bit (get_or matched (e / n_a) 0) (e % n_a)) 0 blank
  pub rest : (e : ℕ) → j * P ≤ e → get_or T e 0 ≡ get_or first e 0

module _ (p : Pair) where
  -- the entries of section j
  unfoldable pub part_of : List ℕ → ℕ → List ℕ
  part_of T j = take (pairs p) (drop (j * pairs p) T)

  -- the pairs that a table covers, section by section
  unfoldable pub covered_family : List ℕ → List (List ℕ)
  covered_family T = table (sets_a p) (λ j. pair_set p (covers p T j))

  -- the goals of section j over what the table covers
  abbrev pub goals_in : List ℕ → ℕ → List ℕ
  goals_in T j = goals p (covered_family T) j

  -- section j may be made anew: no entry is above its pair's rank over the goals that the table gives
  pub record Renewable (j : ℕ) (T : List ℕ) : Type 0 where
    pub room : table_room ≤ length T
    pub section : j < sets_a p
    pub bounded : (i : ℕ) → i < sets_a p → Bounded p (goals_in T i) (part_of T i)

  -- it has been: its entries are the ranks over those goals, and it is said whether its set has changed
  pub record Renewed (j : ℕ) (T : List ℕ) (changed : Bool) (U : List ℕ) : Type 0 where
    pub long : length U ≡ length T
    pub others : (e : ℕ) → (e < j * pairs p) ⊎ (j * pairs p + pairs p ≤ e) → get_or U e 0 ≡ get_or T e 0
    pub ranks : AreRanks p (goals_in T j) (part_of U j)
    pub same : changed ≡ false → get_or (covered_family T) j [] ≡ levels p (goals_in T j)
    pub differs : changed ≡ true → get_or (covered_family T) j [] ≡ levels p (goals_in T j) → ⊥

  -- the sweeps: no entry is above its pair's rank over the present goals, the table covers the family, and each section that is not due (bit
  -- n − 1 − j for section j) has its ranks over the present goals
  pub record Sweeping (first : List ℕ) (due : ℕ) (T : List ℕ) : Type 0 where
    pub small : due < 2 ^ 64
    pub low : (i : ℕ) → has_bit due i ≡ true → i < sets_a p
    pub room : table_room ≤ length T
    pub long : length T ≡ length first
    pub rest : (e : ℕ) → entries p ≤ e → get_or T e 0 ≡ get_or first e 0
    pub bounded : (j : ℕ) → j < sets_a p → Bounded p (goals_in T j) (part_of T j)
    pub above : (j : ℕ) → j < sets_a p → Within p (get_or (family p) j []) (get_or (covered_family T) j [])
    pub exact : (j : ℕ) → j < sets_a p → has_bit due (sets_a p - 1 - j) ≡ false → AreRanks p (goals_in T j) (part_of T j)

  -- the ranks over a family of sets, in the first j sections of a table; the rest is as it was
  pub record FamilyRanked (Z : List (List ℕ)) (first : List ℕ) (j : ℕ) (T : List ℕ) : Type 0 where
    pub long : length T ≡ length first
    pub ranks : (i : ℕ) → i < j → AreRanks p (goals p Z i) (part_of T i)
    pub rest : (e : ℕ) → j * pairs p ≤ e → get_or T e 0 ≡ get_or first e 0
