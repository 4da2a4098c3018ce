-- Document 01, "The game": ranks, and the solver's table.
use Rattle.std.specs.Prelude.{cond, List, [], ◌++◌, ℕ, zero, suc, ◌+◌, ◌-◌, ◌/◌, ◌%◌, length, get_or, ltb}
use Rattle.mask.specs.Bounded.{first}
use Rattle.mask.specs.Tables.{table}
use Rattle.machine.specs.declared.Pair.{Pair}
use Rattle.machine.specs.Machines.{n_a, sets_a, pairs}
use Rattle.machine.specs.Game.{mem, none, goals, xs_over, union, family}
use Rattle.machine.specs.Table.{blank, entries}

-- an entry's l and k, for entries from 1: "r = (l − 1) × m + k". Set k is counted from 0 here.
unfoldable pub level_of : ℕ → ℕ → ℕ
level_of m r = (r - 1) / m + 1

unfoldable pub set_of : ℕ → ℕ → ℕ
set_of m r = (r - 1) % m

module _ (p : Pair) where
  -- X(l, 1), .., X(l, m), X(l + 1, 1), .., for n levels over level l − 1
  unfoldable pub tower_over : ℕ → List ℕ → List ℕ → List (List ℕ)
  tower_over zero goals below = []
  tower_over (suc n) goals below = let Xs = xs_over p goals below in Xs ++ tower_over n goals (union p Xs)

  -- X(1, 1), .., X(1, m), X(2, 1), .., X(P, m)
  unfoldable pub tower : List ℕ → List (List ℕ)
  tower goals = tower_over (pairs p) goals (none p)

  -- "0 for a goal; else r = (l − 1) × m + k with the least l, then the least k, that has the pair in X(l, k); else blank": the place,
  -- counted from 1, of the first set of the tower that has the pair
  unfoldable pub rank_in : List ℕ → List (List ℕ) → ℕ → ℕ → ℕ
  rank_in goals Xs c a =
      let i = first (length Xs) (λ i. mem p (get_or Xs i []) c a) in
      let r = cond (ltb i (length Xs)) (suc i) blank in
      cond (mem p goals c a) 0 r

  -- the rank of a pair in section j
  unfoldable pub rank : ℕ → ℕ → ℕ → ℕ
  rank j c a = let G = goals p (family p) j in rank_in G (tower G) c a

  -- the ranks over a family of sets, as a table: "A table holds section, then c, then a"
  unfoldable pub rank_table : List (List ℕ) → List ℕ
  rank_table Z =
      let Gs = table (sets_a p) (goals p Z) in
      let Ts = table (sets_a p) (λ j. tower (get_or Gs j [])) in
      table (entries p) (λ e. let j = e / pairs p in rank_in (get_or Gs j []) (get_or Ts j []) (e % pairs p / n_a p) (e % n_a p))

  -- the solver's table: the ranks over the largest family
  unfoldable pub solver_table : List ℕ
  solver_table = let Z = family p in rank_table Z
