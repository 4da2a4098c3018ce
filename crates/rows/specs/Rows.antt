-- Sets of pairs as a program holds them: 64 rows, row c the mask of the abstract states beside concrete state c.
use Rattle.std.specs.Prelude.{Bool, cond, List, ℕ, min, get_or, eqb, ltb}
use Rattle.std.specs.Int.Bits.{bit_and, bit_or}
use Rattle.mask.specs.Bits.{has_bit}
use Rattle.mask.specs.Bounded.{every, every_in, some_in}
use Rattle.mask.specs.Tables.{mask_of, table}
use Rattle.machine.specs.declared.Pair.{Pair}
use Rattle.machine.specs.Machines.{n_c, n_a}

-- ---- what rows and sets have to do with each other
-- the rows of a set
unfoldable pub rows_of : List ℕ → List ℕ
rows_of S = table 64 (λ c. get_or S c 0)

-- the set that rows hold
unfoldable pub pairs_in : Pair → List ℕ → List ℕ
pairs_in p rows = table (n_c p) (λ c. get_or rows c 0)

-- ---- one application of "steps into", to all pairs at once
-- of the states below n, and below 64, those that move to b
unfoldable pub movers_of : ℕ → List ℕ → ℕ → ℕ
movers_of n moves b = mask_of (min n 64) (λ a. has_bit (get_or moves a 0) b)

-- for each state below n the states below n that move to it
unfoldable pub predecessors_of : ℕ → List ℕ → List ℕ
predecessors_of n moves = table 64 (λ b. let row = movers_of n moves b in cond (ltb b n) row 0)

-- the states that have a partner in the row: the predecessors of its states
unfoldable pub partners_of : List ℕ → ℕ → ℕ
partners_of predecessors row = mask_of 64 (λ a. some_in 64 row (λ b. has_bit (get_or predecessors b 0) a))

-- for each d below nC the states that have a partner in row d of the set
unfoldable pub partner_rows : ℕ → List ℕ → List ℕ → List ℕ
partner_rows n_c predecessors set = table 64 (λ d. let row = partners_of predecessors (get_or set d 0) in cond (ltb d n_c) row 0)

-- the states that are in the row of each of the moves
unfoldable pub meet_of : ℕ → List ℕ → ℕ
meet_of moves rows = mask_of 64 (λ a. every_in 64 moves (λ d. has_bit (get_or rows d 0) a))

-- for each c below nC the states a such that (c, a) steps into the set
unfoldable pub step_rows : ℕ → List ℕ → List ℕ → List ℕ → List ℕ
step_rows n_c moves predecessors set =
    let rows = partner_rows n_c predecessors set in
    table 64 (λ c. let row = meet_of (get_or moves c 0) rows in cond (ltb c n_c) row 0)

-- ---- sets out of sets
-- the goals of a section: its set's members, and the pairs that step into the next section
unfoldable pub goal_rows : List ℕ → ℕ → List ℕ → List ℕ
goal_rows matched members steps = table 64 (λ c. bit_and (get_or matched c 0) (bit_and members (get_or steps c 0)))

-- the matched pairs that are in one of two sets
unfoldable pub join_rows : List ℕ → List ℕ → List ℕ → List ℕ
join_rows matched x y = table 64 (λ c. bit_and (get_or matched c 0) (bit_or (get_or x c 0) (get_or y c 0)))

-- the first n rows, of 64, are the same
unfoldable pub same_rows : ℕ → List ℕ → List ℕ → Bool
same_rows n x y = every (min n 64) (λ c. eqb (get_or x c 0) (get_or y c 0))

-- ---- the same, of the machines of a pair
module _ (p : Pair) where
  -- what the predecessors of each machine's states are
  abbrev pub abstract_predecessors : List ℕ
  abstract_predecessors = predecessors_of (n_a p) p.abstraction.successors

  abbrev pub concrete_predecessors : List ℕ
  concrete_predecessors = predecessors_of (n_c p) p.concrete.successors

  abbrev pub steps_of : List ℕ → List ℕ
  steps_of = step_rows (n_c p) p.concrete.successors abstract_predecessors
