-- The largest set within a start whose pairs meet the rule of X(l, k), as rows.
use Rattle.std.specs.Prelude.{true, cond, List, ◌≡◌, ℕ, ◌≤◌, ◌<◌, length, get_or}
use Rattle.std.specs.Int.Bits.{bit_or}
use Rattle.mask.specs.Bits.{has_bit}
use Rattle.rows.specs.Rows.{predecessors_of, meet_of, partner_rows}

-- every pair of x is one of y
abbrev pub Inside : ℕ → List ℕ → List ℕ → Type 0
Inside n_c x y = (c a : ℕ) → c < n_c → has_bit (get_or x c 0) a ≡ true → has_bit (get_or y c 0) a ≡ true

module _ (n_c : ℕ) (moves predecessors base : List ℕ) (members : ℕ) where
  -- what may be in row c of x: the base, and outside the members what steps into x
  unfoldable pub rule_row : List ℕ → ℕ → ℕ
  rule_row x c = bit_or (get_or base c 0) (cond (has_bit members c) 0 (meet_of (get_or moves c 0) (partner_rows n_c predecessors x)))

  -- each row of x meets the rule
  abbrev pub Meets : List ℕ → Type 0
  Meets x = (c a : ℕ) → c < n_c → has_bit (get_or x c 0) a ≡ true → has_bit (rule_row x c) a ≡ true

  -- x is the largest set within the start that meets the rule, and rows from nC on are the start's
  pub record Largest (start x : List ℕ) : Type 0 where
    pub long : length x ≡ 64
    pub beyond : (c : ℕ) → n_c ≤ c → get_or x c 0 ≡ get_or start c 0
    pub below : (c : ℕ) → get_or x c 0 ≤ get_or start c 0
    pub inside : Inside n_c x start
    pub meets : Meets x
    pub largest : (u : List ℕ) → Inside n_c u start → Meets u → Inside n_c u x

-- what is handed in: at most 64 states, the predecessors of concrete ones, a start of 64 rows, and its partner rows
pub record Known (n_c : ℕ) (moves dependents predecessors start first : List ℕ) : Type 0 where
  pub few : n_c ≤ 64
  pub long : length start ≡ 64
  pub dependents_are : dependents ≡ predecessors_of n_c moves
  pub first_are : first ≡ partner_rows n_c predecessors start
