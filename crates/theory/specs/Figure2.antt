-- Document 000, figure 2 and section 3.1, to be laid beside them. A set is here a predicate on pairs of states, as in the paper.
use Rattle.std.specs.Prelude.{true, false, ◌⊎◌, ◌≡◌, ℕ, zero, suc, ◌-◌, ◌<◌}
use Rattle.machine.specs.declared.Pair.{Pair}
use Rattle.machine.specs.Machines.{moves, in_fair_set, matched, next, n_c, n_a, sets_c, sets_a}

abbrev pub Set : Type 1
Set = ℕ → ℕ → Type 0

module _ (p : Pair) where
  -- Σcor, the correlated states of the game
  abbrev pub Cor : Set
  Cor c a = (c < n_c p) × (a < n_a p) × (matched p c a ≡ true)

  -- ⊗ S: for each move of the concrete machine there is one of the abstract machine into S
  abbrev pub Next : Set → Set
  Next S c a = (d : ℕ) → d < n_c p → moves p.concrete c d ≡ true → (b : ℕ) × (b < n_a p) × (moves p.abstraction a b ≡ true) × S d b

  -- J of the abstract machine; not J of the concrete machine
  abbrev pub JA : ℕ → Set
  JA j c a = in_fair_set p.abstraction j a ≡ true

  abbrev pub not_JC : ℕ → Set
  not_JC k c a = in_fair_set p.concrete k c ≡ false

  -- S_0 and S_{i+1} of section 3.1
  unfoldable pub approx : {X : Type 1} → (X → X) → X → ℕ → X
  approx f s zero = s
  approx f s (suc i) = f (approx f s i)

  -- μX f: the union of the S_i from the empty set
  unfoldable pub mu : (Set → Set) → Set
  mu f c a = (i : ℕ) × approx f (λ c a. ⊥) i c a

  -- νX f: the intersection of the S_i from Σcor
  unfoldable pub nu : (Set → Set) → Set
  nu f c a = (i : ℕ) → approx f Cor i c a

  -- ν of the vector Z1 .. Zn
  unfoldable pub nu_family : ((ℕ → Set) → ℕ → Set) → ℕ → Set
  nu_family f j c a = (i : ℕ) → approx f (λ j. Cor) i j c a

  -- J_j ∧ ⊗ Z_{j+1}  ∨  ⊗ Y  ∨  ¬J_k ∧ ⊗ X, within Σcor
  abbrev pub UnderX : (ℕ → Set) → ℕ → Set → ℕ → Set → Set
  UnderX Z j Y k X c a = Cor c a × ((JA j c a × Next (Z (next (sets_a p) j)) c a) ⊎ (Next Y c a ⊎ (not_JC k c a × Next X c a)))

  -- νX of that
  abbrev pub Innermost : (ℕ → Set) → ℕ → Set → ℕ → Set
  Innermost Z j Y k = nu (UnderX Z j Y k)

  -- ⋁k of that
  abbrev pub UnderY : (ℕ → Set) → ℕ → Set → Set
  UnderY Z j Y c a = (k : ℕ) × (k < sets_c p) × Innermost Z j Y k c a

  -- a row of the figure: μY (⋁k νX (J_j ∧ ⊗ Z_{j+1}  ∨  ⊗ Y  ∨  ¬J_k ∧ ⊗ X))
  unfoldable pub row : (ℕ → Set) → ℕ → Set
  row Z j = mu (UnderY Z j)

  -- figure 2
  unfoldable pub figure2 : ℕ → Set
  figure2 = nu_family row

  -- ---- the parts of the figure that document 01 reads ranks from
  -- iterate l of μY in row j, over Z: level l
  abbrev pub IterateY : (ℕ → Set) → ℕ → ℕ → Set
  IterateY Z j l = approx (UnderY Z j) (λ c a. ⊥) l

  -- a goal of section j: J_j ∧ ⊗ Z_{j+1}, with the figure's own value for Z
  abbrev pub FigureGoal : ℕ → Set
  FigureGoal j c a = Cor c a × JA j c a × Next (figure2 (next (sets_a p) j)) c a

  -- X(l, k) of section j, for l from 1: νX over iterate l − 1 of μY, with the figure's own value for Z
  abbrev pub FigureX : ℕ → ℕ → ℕ → Set
  FigureX j l k = Innermost figure2 j (IterateY figure2 j (l - 1)) k
