-- Laws of an entry's l and k, and of the tower X(1, 1), .., X(1, m), X(2, 1), .., X(P, m): its length, and which set stands where.
use mathlib.Core.List.{List, []}
use Rattle.std.specs.Prelude.{true, ◌≡◌, get_or}
use Rattle.std.proofs.Math.Path.{ap}
use Rattle.std.proofs.Common.{◌∙◌, get_or-append-add}
use Prim.Native.Nat.{ℕ, zero, suc, ◌+◌, ◌-◌, ◌*◌, ◌<◌}
use native.Mathlib.Omega.{arith}
use Rattle.std.proofs.Math.Arith.{digits_lt, digits_div, digits_mod}
use Rattle.std.proofs.Math.ListN.{length, length-append, get_or-append}
use Rattle.mask.specs.TablesLaws.{table_length, table_at}
use Rattle.machine.specs.declared.Pair.{Pair}
use Rattle.machine.specs.Machines.{n_c, n_a, sets_c, pairs}
use Rattle.machine.specs.Iteration.{iterate}
use Rattle.machine.specs.Game.{mem, none, x_over, xs_over, level_over, level, x_set, levels}
use Rattle.machine.specs.Ranks.{level_of, set_of, tower_over, tower}
use Rattle.theory.specs.Statements.{PlaceComesBack}
use Rattle.theory.specs.Fixpoint.{iterate_front}
use Rattle.theory.specs.GameLaws.{IsX, x_over_is, level_at, level_of_lem, level_suc, level_levels, levels_level}

-- l and k come back from r
pub place_back : PlaceComesBack
unfolding level_of set_of
place_back m l k hl hk =
    let e : (l - 1) * m + k + 1 - 1 ≡ (l - 1) * m + k = omega arith in
    (rw (e, digits_div (l - 1) hk) (omega arith), rw e (digits_mod (l - 1) hk))

module _ (p : Pair) (G : List ℕ) where
  -- X(l + 1, k) is the largest X over level l
  pub x_is : (l k : ℕ) → IsX p G (level p G l) k (x_set p G (suc l) k)
  unfolding x_set
  x_is l k = x_over_is p G (level p G l) k

  -- a pair is in level l + 1 exactly if it is in some X(l + 1, k), and among the levels exactly if it is in some X(l, k) with l at most P
  pub level_x : (l c a : ℕ) → c < n_c p → a < n_a p → mem p (level p G (suc l)) c a ≡ true → (k : ℕ) × (k < sets_c p) × (mem p (x_set p G (suc l) k) c a ≡ true)
  unfolding x_set
  level_x l c a hc ha t = level_at p G (level p G l) c a hc ha (rw (level_suc p G l) at t)

  pub x_level : (l k c a : ℕ) → k < sets_c p → c < n_c p → a < n_a p → mem p (x_set p G (suc l) k) c a ≡ true → mem p (level p G (suc l)) c a ≡ true
  unfolding x_set
  x_level l k c a hk hc ha t = rw (level_suc p G l) (level_of_lem p G (level p G l) k c a hk hc ha t)

  pub levels_x : (c a : ℕ) → c < n_c p → a < n_a p → mem p (levels p G) c a ≡ true
      → (l : ℕ) × (k : ℕ) × (l < pairs p) × (k < sets_c p) × (mem p (x_set p G (suc l) k) c a ≡ true)
  levels_x c a hc ha t =
      let some : 0 < pairs p = omega (arith, digits_lt hc ha) in
      let e : pairs p ≡ suc (pairs p - 1) = omega arith in
      let q = level_x (pairs p - 1) c a hc ha (rw e at (levels_level p G c a hc ha t)) in
      (pairs p - 1, q.0, omega arith, q.1, q.2)

  pub x_levels : (l k c a : ℕ) → k < sets_c p → c < n_c p → a < n_a p → mem p (x_set p G (suc l) k) c a ≡ true → mem p (levels p G) c a ≡ true
  x_levels l k c a hk hc ha t = level_levels p G (suc l) c a hc ha (x_level l k c a hk hc ha t)

  xs_length : (B : List ℕ) → length (xs_over p G B) ≡ sets_c p
  unfolding xs_over
  xs_length B = table_length (sets_c p) (x_over p G B)

  xs_at : (B : List ℕ) (k : ℕ) → k < sets_c p → get_or (xs_over p G B) k [] ≡ x_over p G B k
  unfolding xs_over
  xs_at B k h = table_at (sets_c p) (x_over p G B) k [] h

  tower_over_length : (n : ℕ) (B : List ℕ) → length (tower_over p n G B) ≡ n * sets_c p
  unfolding tower_over level_over
  tower_over_length zero B = omega arith
  tower_over_length (suc n) B =
      omega (arith, length-append (xs_over p G B) (tower_over p n G (level_over p G B)), xs_length B, tower_over_length n (level_over p G B))

  tower_over_at : (n : ℕ) (B : List ℕ) (l k : ℕ) → l < n → k < sets_c p
      → get_or (tower_over p n G B) (l * sets_c p + k) [] ≡ x_over p G (iterate l (level_over p G) B) k
  unfolding tower_over level_over iterate
  tower_over_at zero B l k hl hk = absurd (omega arith)
  tower_over_at (suc n) B zero k hl hk =
      let e : 0 * sets_c p + k ≡ k = omega arith in
      rw e (get_or-append (xs_over p G B) (tower_over p n G (level_over p G B)) [] k (rw (xs_length B) hk) ∙ xs_at B k hk)
  tower_over_at (suc n) B (suc l) k hl hk =
      let e : suc l * sets_c p + k ≡ length (xs_over p G B) + (l * sets_c p + k) = omega (arith, xs_length B) in
      rw e (get_or-append-add (xs_over p G B) (tower_over p n G (level_over p G B)) (l * sets_c p + k) []
      ∙ tower_over_at n (level_over p G B) l k (omega arith) hk ∙ ap (λ (L : List ℕ). x_over p G L k) (iterate_front (level_over p G) l B))

  pub tower_length : length (tower p G) ≡ pairs p * sets_c p
  unfolding tower
  tower_length = tower_over_length (pairs p) (none p)

  pub tower_at : (l k : ℕ) → l < pairs p → k < sets_c p → get_or (tower p G) (l * sets_c p + k) [] ≡ x_set p G (suc l) k
  unfolding tower x_set level
  tower_at l k hl hk = tower_over_at (pairs p) (none p) l k hl hk
