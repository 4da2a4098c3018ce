-- Laws of items in a row, and of numbers that ascend: the states of a mask begin with the lowest and go on with those of the rest.
use Rattle.std.specs.Prelude.{Bool, true, false, cond, ◌≡◌}
use mathlib.Core.List.{List, [], ◌∷◌, ◌++◌, flat_map}
use Rattle.std.proofs.Math.Logic.{by_cases}
use Rattle.std.proofs.Math.Path.{refl, sym, ap, ap₂}
use Rattle.std.proofs.Common.{◌∙◌, eq-eqb, ne_eqb}
use Prim.Native.Nat.{ℕ, zero, suc, ◌+◌, ◌-◌, ◌^◌, ◌≤◌, ◌<◌}
use Rattle.std.proofs.Math.Decide.{dec_lt}
use native.Mathlib.Omega.{arith}
use Rattle.mask.specs.LogicLaws.{and_true_r, and_false_r, not_i, not_f}
use Rattle.mask.specs.Bits.{has_bit, lowest_of, rest_of}
use Rattle.mask.specs.BitsLaws.{has_rest, has_none, lowest_set, lowest_least, lowest_lt, has_beyond}
use Rattle.mask.specs.Tables.{mask_of}
use Rattle.mask.specs.TablesLaws.{has_mask_of_at, mask_of_lt}
use Rattle.hanoi.specs.Words.{numbers, below, chosen, states_of, spread, joined}

-- ---- items in a row
module _ (between : List ℕ) where
  pub spread_none : spread between [] ≡ []
  unfolding spread flat_map
  spread_none = refl

  pub joined_none : joined between [] ≡ []
  unfolding joined
  joined_none = refl

  module _ (w : List ℕ) (ws : List (List ℕ)) where
    pub spread_more : spread between (w ∷ ws) ≡ between ++ w ++ spread between ws
    unfolding spread flat_map
    spread_more = refl

    pub joined_more : joined between (w ∷ ws) ≡ w ++ spread between ws
    unfolding joined
    joined_more = refl

-- ---- numbers
-- what is left of n numbers at s
pub numbers_at : (s n : ℕ) → s < n → numbers s (n - s) ≡ s ∷ numbers (s + 1) (n - (s + 1))
unfolding numbers
numbers_at s n h =
    let e : n - s ≡ suc (n - (s + 1)) = omega arith in
    let f : suc s ≡ s + 1 = omega arith in
    ap (numbers s) e ∙ ap (λ (i : ℕ). s ∷ numbers i (n - (s + 1))) f

pub numbers_past : (s n : ℕ) → n ≤ s → numbers s (n - s) ≡ []
unfolding numbers
numbers_past s n h = let e : n - s ≡ 0 = omega arith in ap (numbers s) e

pub below_more_lem : (n : ℕ) → 0 < n → below n ≡ 0 ∷ numbers 1 (n - 1)
unfolding numbers
below_more_lem n h = let e : n ≡ suc (n - 1) = omega arith in ap (numbers 0) e

-- ---- those that pass a test
chosen_hit : (p : ℕ → Bool) (x : ℕ) (l : List ℕ) → p x ≡ true → chosen p (x ∷ l) ≡ x ∷ chosen p l
unfolding chosen
chosen_hit p x l e = rw e

chosen_miss : (p : ℕ → Bool) (x : ℕ) (l : List ℕ) → p x ≡ false → chosen p (x ∷ l) ≡ chosen p l
unfolding chosen
chosen_miss p x l e = rw e

-- tests that agree on the numbers choose the same
chosen_cong : (p q : ℕ → Bool) (s k : ℕ) → ((i : ℕ) → s ≤ i → i < s + k → p i ≡ q i) → chosen p (numbers s k) ≡ chosen q (numbers s k)
unfolding chosen numbers
chosen_cong p q s zero h = refl
chosen_cong p q s (suc k) h =
    ap₂ (λ (b : Bool) (l : List ℕ). cond b (s ∷ l) l) (h s (omega arith) (omega arith)) (chosen_cong p q (suc s) k (λ i a b. h i (omega arith) (omega arith)))

chosen_none : (p : ℕ → Bool) (s k : ℕ) → ((i : ℕ) → s ≤ i → i < s + k → p i ≡ false) → chosen p (numbers s k) ≡ []
unfolding chosen numbers
chosen_none p s zero h = refl
chosen_none p s (suc k) h =
    chosen_miss p s (numbers (suc s) k) (h s (omega arith) (omega arith)) ∙ chosen_none p (suc s) k (λ i a b. h i (omega arith) (omega arith))

-- none passes from a bound on
chosen_cut : (p : ℕ → Bool) (s k n : ℕ) → n ≤ k → ((i : ℕ) → s + n ≤ i → i < s + k → p i ≡ false) → chosen p (numbers s k) ≡ chosen p (numbers s n)
unfolding chosen numbers
chosen_cut p s k zero l h = chosen_none p s k (λ i a b. h i (omega arith) b)
chosen_cut p s zero (suc n) l h = absurd (omega arith)
chosen_cut p s (suc k) (suc n) l h =
    ap (λ (r : List ℕ). cond (p s) (s ∷ r) r) (chosen_cut p (suc s) k n (omega arith) (λ i a b. h i (omega arith) (omega arith)))

-- the first that passes, and then those that a test chooses which it alone fails
module _ (p q : ℕ → Bool) (i : ℕ) (here : p i ≡ true) (gone : q i ≡ false) (same : (k : ℕ) → (k ≡ i → ⊥) → p k ≡ q k) where
  chosen_first : (s k : ℕ) → s ≤ i → i < s + k → ((j : ℕ) → j < i → p j ≡ false) → chosen p (numbers s k) ≡ i ∷ chosen q (numbers s k)
  unfolding numbers
  chosen_first s zero l h none = absurd (omega arith)
  chosen_first s (suc k) l h none =
      by_cases (dec_lt s i)
      (λ b.
      chosen_miss p s (numbers (suc s) k) (none s b)
      ∙ chosen_first (suc s) k (omega arith) (omega arith) none
      ∙ ap (λ (r : List ℕ). i ∷ r) (sym (chosen_miss q s (numbers (suc s) k) (sym (same s (λ e. omega arith)) ∙ none s b))))
      (λ b.
      let e : s ≡ i = omega arith in
      chosen_hit p s (numbers (suc s) k) (ap p e ∙ here)
      ∙ ap₂ (λ (x : ℕ) (r : List ℕ). x ∷ r) e
      (chosen_cong p q (suc s) k (λ j a c. same j (λ f. omega arith)) ∙ sym (chosen_miss q s (numbers (suc s) k) (ap q e ∙ gone))))

-- ---- the states of a mask
pub states_none : states_of 0 ≡ []
unfolding states_of
states_none = chosen_none (has_bit 0) 0 64 (λ i a b. has_none i)

pub states_next : (m : ℕ) → (m ≡ 0 → ⊥) → m < 2 ^ 64 → states_of m ≡ lowest_of 64 m ∷ states_of (rest_of m)
unfolding states_of
states_next m some small =
    let low = lowest_of 64 m in
    let positive : 0 < m = by_cases (dec_lt 0 m) (λ h. h) (λ h. absurd (some (omega arith))) in
    chosen_first (has_bit m) (has_bit (rest_of m)) low (lowest_set 64 m positive small)
    (has_rest 64 m low positive small ∙ and_false_r (has_bit m low) (not_f (eq-eqb low low refl)))
    (λ k d. sym (has_rest 64 m k positive small ∙ and_true_r (has_bit m k) (not_i (ne_eqb k low d))))
    0 64 (omega arith) (omega (arith, lowest_lt 64 m positive small)) (λ j l. lowest_least 64 m j l)

-- the mask of those that pass a test has them as its states
pub states_mask : (n : ℕ) (p : ℕ → Bool) → n ≤ 64 → states_of (mask_of n p) ≡ chosen p (below n)
unfolding states_of
states_mask n p h =
    chosen_cut (has_bit (mask_of n p)) 0 64 n h (λ i a b. has_beyond n (mask_of n p) i (mask_of_lt n p) (omega arith))
    ∙ chosen_cong (has_bit (mask_of n p)) p 0 n (λ i a b. has_mask_of_at n p i (omega arith))
