-- Bits and entries beyond the counts of a machine, tested as masks and observations.
use Rattle.std.specs.Prelude.{Bool, List, ◌≡◌, refl, ℕ, ◌≤◌, eqb, leb, get_or}
use Rattle.std.proofs.Common.{⊎_elim, ap, ◌∙◌, arith, lt-ltb, le-ltb, le-leb}
use Rattle.std.proofs.lemmas.Bool.{lt-leb}
use Rattle.std.proofs.Math.Logic.{by_cases}
use Rattle.std.proofs.Math.Decide.{dec_lt}
use Rattle.mask.specs.Logic.{not, and, or}
use Rattle.mask.specs.LogicLaws.{both, or_l, or_r, or_e, or_false_r, and_true_l, and_false_l}
use Rattle.mask.specs.Bounded.{some}
use Rattle.mask.specs.BoundedLaws.{some_of, some_at, some_cong}
use Rattle.machine.specs.WellFormed.{state_beyond, set_beyond}

-- a state past the count has an observation
unfoldable pub observed_beyond : ℕ → List ℕ → Bool
observed_beyond states observations = some 64 (λ s. and (leb states s) (not (eqb (get_or observations s 0) 0)))

some_or : (n : ℕ) (p q : ℕ → Bool) → or (some n p) (some n q) ≡ some n (λ i. or (p i) (q i))
some_or n p q = both _ _
    (λ t. ⊎_elim (λ u. let r = some_at n p u in some_of n _ r.0 r.1 (or_l _ r.2)) (λ u. let r = some_at n q u in some_of n _ r.0 r.1 (or_r _ r.2)) (or_e t))
    (λ t. let r = some_at n _ t in ⊎_elim (λ u. or_l _ (some_of n p r.0 r.1 u)) (λ u. or_r _ (some_of n q r.0 r.1 u)) (or_e r.2))

or_comm : (a b : Bool) → or a b ≡ or b a
or_comm a b = both _ _ (λ t. ⊎_elim (λ u. or_r _ u) (λ u. or_l _ u) (or_e t)) (λ t. ⊎_elim (λ u. or_r _ u) (λ u. or_l _ u) (or_e t))

-- a state's entries are its successors, which are a mask, and its observation
pub states_beyond : (states : ℕ) (observations successors : List ℕ)
    → or (some 64 (set_beyond states states successors)) (observed_beyond states observations) ≡ some 64 (state_beyond states observations successors)
unfolding observed_beyond set_beyond state_beyond
states_beyond n xs ms = some_or 64 _ _ ∙ some_cong 64 _ _ (λ s h. by_cases (dec_lt s n)
    (λ l. rw (lt-ltb s n l, lt-leb n s l) (or_false_r _ (and_false_l _ refl)))
    (λ l. let k : n ≤ s = omega arith in rw (le-ltb s n k, le-leb n s k) (ap (or _) (and_true_l _ refl) ∙ or_comm _ _)))
