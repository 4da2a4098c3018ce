-- Document 000's figure 2 over predicates, and the game over lists of masks, say the same.
use Rattle.std.specs.Prelude.{◌≡◌, ◌⊎◌, ◌↔◌, true, List, [], get_or}
use Rattle.std.proofs.Common.{inl, inr, ⊎_elim, arith}
use Prim.Native.Nat.{ℕ, zero, suc, ◌-◌, ◌*◌, ◌<◌}
use Rattle.machine.specs.declared.Pair.{Pair}
use Rattle.machine.specs.Machines.{next, n_c, n_a, sets_a, pairs}
use Rattle.machine.specs.Step.{steps}
use Rattle.machine.specs.StepLaws.{next_lt, steps_at, steps_of_lem}
use Rattle.machine.specs.Iteration.{iterate}
use Rattle.machine.specs.Game.{mem, none, all_matched, goals, round_x, x_after, x_over, level_over, level, x_set, levels, turn, first_family, family_after, family}
use Rattle.theory.specs.Figure2.{Set, Cor, Next, JA, not_JC, approx, mu, nu, nu_family, row, figure2, UnderX, Innermost, UnderY, IterateY, FigureGoal, FigureX}
use Rattle.theory.specs.Statements.{Within}
use Rattle.theory.specs.GameLaws.{InX, goal, lower, stay, none_empty, in_all_matched, of_all_matched, in_round, of_round, x_over_round, round_x_over, level_at, level_of_lem, level_levels, levels_level}
use Rattle.theory.specs.FamilyLaws.{goals_at, goals_of, turn_at, first_at, family_within, family_last}

module _ (p : Pair) where
  -- the predicate S and the set D have the same pairs; so section by section
  abbrev pub Is : Set → List ℕ → Type 0
  Is S D = (c a : ℕ) → c < n_c p → a < n_a p → S c a ↔ (mem p D c a ≡ true)

  abbrev pub IsFam : (ℕ → Set) → List (List ℕ) → Type 0
  IsFam Z W = (j : ℕ) → j < sets_a p → Is (Z j) (get_or W j [])

  -- ---- iterates agree where the operators do
  pub approx_is : {X : Type 1} {Y : Type 0} (R : X → Y → Type 0) (f : X → X) (F : Y → Y) → ((x : X) (y : Y) → R x y → R (f x) (F y))
      → (x : X) (y : Y) → R x y → (i : ℕ) → R (approx p f x i) (iterate i F y)
  unfolding approx iterate
  approx_is R f F h x y e zero = e
  approx_is R f F h x y e (suc i) = h _ _ (approx_is R f F h x y e i)

  pub cor_is : Is (Cor p) (all_matched p)
  cor_is c a hc ha = (λ t. in_all_matched p c a hc ha t.2, λ t. (hc, ha, of_all_matched p c a hc ha t))

  pub none_is : Is (λ c a. ⊥) (none p)
  none_is c a hc ha = (λ t. absurd t, λ t. none_empty p c a hc ha t)

  pub next_is : (S : Set) (D : List ℕ) → Is S D → (c a : ℕ) → Next p S c a ↔ (steps p (mem p D) c a ≡ true)
  next_is S D e c a = (
    λ h. steps_of_lem p (mem p D) c a (λ d hd m. let q = h d hd m in (q.0, q.1, q.2, (e d q.0 hd q.1).0 q.3)),
    λ t d hd m. let q = steps_at p (mem p D) c a t d hd m in (q.0, q.1, q.2, (e d q.0 hd q.1).1 q.3),
  )

  module _ (f : Set → Set) (F : List ℕ → List ℕ) (h : (S : Set) (D : List ℕ) → Is S D → Is (f S) (F D)) (r : List ℕ) (n : ℕ) where
    -- ν is the set that lies below every iterate and above one
    pub nu_is : ((i : ℕ) → Within p r (iterate i F (all_matched p))) → Within p (iterate n F (all_matched p)) r → Is (nu p f) r
    unfolding nu
    nu_is below above c a hc ha = (
      λ t. above c a hc ha ((approx_is Is f F h (Cor p) (all_matched p) cor_is n c a hc ha).0 (t n)),
      λ t i. (approx_is Is f F h (Cor p) (all_matched p) cor_is i c a hc ha).1 (below i c a hc ha t),
    )

    -- μ is the set that lies above every iterate and below one
    pub mu_is : ((i : ℕ) → Within p (iterate i F (none p)) r) → Within p r (iterate n F (none p)) → Is (mu p f) r
    unfolding mu
    mu_is above below c a hc ha = (
      λ t. above t.0 c a hc ha ((approx_is Is f F h (λ c a. ⊥) (none p) none_is t.0 c a hc ha).0 t.1),
      λ t. (n, (approx_is Is f F h (λ c a. ⊥) (none p) none_is n c a hc ha).1 (below c a hc ha t)),
    )

  -- ---- one row of figure 2, over a family
  module _ (Z : ℕ → Set) (W : List (List ℕ)) (z : IsFam Z W) (j : ℕ) (hj : j < sets_a p) where
    into_next : (c a : ℕ) → Next p (Z (next (sets_a p) j)) c a ↔ (steps p (mem p (get_or W (next (sets_a p) j) [])) c a ≡ true)
    into_next = next_is _ _ (z (next (sets_a p) j) (next_lt (sets_a p) j hj))

    -- J_j ∧ ⊗ Z_{j+1}
    pub goal_is : Is (λ c a. Cor p c a × JA p j c a × Next p (Z (next (sets_a p) j)) c a) (goals p W j)
    goal_is c a hc ha = (
      λ t. goals_of p W j c a hc ha t.0.2 t.1 ((into_next c a).0 t.2),
      λ t. let q = goals_at p W j c a hc ha t in ((hc, ha, q.0), q.1, (into_next c a).1 q.2),
    )

    module _ (Y : Set) (B : List ℕ) (y : Is Y B) (k : ℕ) where
      pub round_is : (X : Set) (D : List ℕ) → Is X D → Is (UnderX p Z j Y k X) (round_x p (goals p W j) B k D)
      round_is X D x c a hc ha = (
        λ t. in_round p (goals p W j) B k D c a hc ha t.0.2 (⊎_elim
            (λ u. goal ((goal_is c a hc ha).0 (t.0, u.0, u.1)))
            (⊎_elim (λ u. lower ((next_is Y B y c a).0 u)) (λ u. stay u.0 ((next_is X D x c a).0 u.1))) t.1),
        λ t. let q = of_round p (goals p W j) B k D c a hc ha t in ((hc, ha, q.0), way q.1),
      )
        where
          way : InX p (goals p W j) B k D c a → (JA p j c a × Next p (Z (next (sets_a p) j)) c a) ⊎ (Next p Y c a ⊎ (not_JC p k c a × Next p X c a))
          way (goal u) = let q = (goal_is c a hc ha).1 u in inl (q.1, q.2)
          way (lower u) = inr (inl ((next_is Y B y c a).1 u))
          way (stay o u) = inr (inr (o, (next_is X D x c a).1 u))

      pub rounds_are : (i : ℕ) → Is (approx p (UnderX p Z j Y k) (Cor p) i) (x_after p (goals p W j) B k i)
      unfolding x_after
      rounds_are = approx_is Is _ _ round_is (Cor p) (all_matched p) cor_is

      pub innermost_is : Is (Innermost p Z j Y k) (x_over p (goals p W j) B k)
      unfolding x_after
      innermost_is = nu_is _ _ round_is _ (pairs p) (x_over_round p (goals p W j) B k) (round_x_over p (goals p W j) B k)

    pub level_is : (Y : Set) (B : List ℕ) → Is Y B → Is (UnderY p Z j Y) (level_over p (goals p W j) B)
    level_is Y B y c a hc ha = (
      λ t. level_of_lem p (goals p W j) B t.0 c a t.1 hc ha ((innermost_is Y B y t.0 c a hc ha).0 t.2),
      λ t. let q = level_at p (goals p W j) B c a hc ha t in (q.0, q.1, (innermost_is Y B y q.0 c a hc ha).1 q.2),
    )

    pub levels_are : (l : ℕ) → Is (IterateY p Z j l) (level p (goals p W j) l)
    unfolding level
    levels_are = approx_is Is _ _ level_is (λ c a. ⊥) (none p) none_is

    -- X(l + 1, k) is νX over iterate l
    pub x_is_nu : (l k : ℕ) → Is (Innermost p Z j (IterateY p Z j l) k) (x_set p (goals p W j) (suc l) k)
    unfolding x_set
    x_is_nu l k = innermost_is (IterateY p Z j l) (level p (goals p W j) l) (levels_are l) k

    pub row_is : Is (row p Z j) (levels p (goals p W j))
    unfolding row level
    row_is = mu_is _ _ level_is _ (pairs p) (level_levels p (goals p W j)) (levels_level p (goals p W j))

  -- ---- the vector
  pub turn_is : (Z : ℕ → Set) (W : List (List ℕ)) → IsFam Z W → IsFam (row p Z) (turn p W)
  turn_is Z W z j hj = rw (turn_at p W j hj) (row_is Z W z j hj)

  pub first_is : IsFam (λ j. Cor p) (first_family p)
  first_is j hj = rw (first_at p j hj) cor_is

  pub turns_are : (t : ℕ) → IsFam (approx p (row p) (λ j. Cor p) t) (family_after p t)
  unfolding family_after
  turns_are = approx_is IsFam (row p) (turn p) turn_is (λ j. Cor p) (first_family p) first_is

  pub figure2_is : IsFam (figure2 p) (family p)
  unfolding figure2 nu_family
  figure2_is j hj c a hc ha = (
    λ t. family_last p j hj c a hc ha ((turns_are (sets_a p * pairs p) j hj c a hc ha).0 (t (sets_a p * pairs p))),
    λ t i. (turns_are i j hj c a hc ha).1 (family_within p i j hj c a hc ha t),
  )

  -- ---- goals and X(l, k) of the figure itself
  module _ (j : ℕ) (hj : j < sets_a p) where
    pub figure_goal_is : Is (FigureGoal p j) (goals p (family p) j)
    figure_goal_is = goal_is (figure2 p) (family p) figure2_is j hj

    pub figure_x_is : (l k : ℕ) → 0 < l → Is (FigureX p j l k) (x_set p (goals p (family p) j) l k)
    figure_x_is zero k h = absurd (omega arith)
    figure_x_is (suc l) k h = let e : suc l - 1 ≡ l = omega arith in rw e (x_is_nu (figure2 p) (family p) figure2_is j hj l k)
