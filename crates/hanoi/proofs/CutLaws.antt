-- Laws of texts of numbers: equal texts have equal numbers, and equal text behind them. Laws of numbers that pass a test: their list tells which pass.
use Rattle.std.specs.Prelude.{Bool, false, ◌≡◌, refl, ℕ, zero, suc, ◌+◌, ◌^◌, ◌≤◌, ◌<◌, eqb}
use mathlib.Core.List.{List, [], ◌∷◌, ◌++◌, map, head-eq_of_cons-eq, tail-eq_of_cons-eq}
use Rattle.std.proofs.Math.Logic.{by_cases}
use Rattle.std.proofs.Common.{sym, ap, ap₂, ◌∙◌, arith, eq-eqb, ne_eqb}
use Rattle.std.proofs.Math.Decide.{dec_lt}
use Rattle.mask.specs.Logic.{and, or}
use Rattle.mask.specs.LogicLaws.{clash, cond_cases, or_l, or_false, or_false_l}
use Rattle.text.specs.Decimal.{decimal, is_digit}
use Rattle.text.specs.EndsLaws.{begun, decimal_begun, number_told}
use Rattle.hanoi.specs.Words.{ascii, numbers, below, chosen, spread, joined}
use Rattle.hanoi.proofs.LinesLaws.{spread_end, spread_next, joined_end, joined_next}

-- ---- numbers that stand one blank apart, in front of a byte that is neither a digit nor a blank
-- numbers of at most 20 digits
pub data Small : List ℕ → Type 0 where
  small_none : Small []
  small_next : {n : ℕ} {l : List ℕ} → n < 10 ^ 20 → Small l → Small (n ∷ l)

spread_begun : (l x : List ℕ) → begun x ≡ false → begun (spread (ascii " ") (map decimal l) ++ x) ≡ false
unfolding is_digit and
spread_begun [] x h = rw spread_end h
spread_begun (n ∷ l) x h = rw spread_next

module _ (c : ℕ) (x y : List ℕ) (other : is_digit c ≡ false) (apart : c ≡ 32 → ⊥) where
  spread_told : {l k : List ℕ} → Small l → Small k → spread (ascii " ") (map decimal l) ++ (c ∷ x) ≡ spread (ascii " ") (map decimal k) ++ (c ∷ y) → (l ≡ k) × (x ≡ y)
  spread_told small_none small_none e = (refl, tail-eq_of_cons-eq (simp spread_end at e))
  spread_told small_none (small_next b h) e = absurd (apart (head-eq_of_cons-eq (simp (spread_end, spread_next) at e)))
  spread_told (small_next a g) small_none e = absurd (apart (head-eq_of_cons-eq (sym (simp (spread_end, spread_next) at e))))
  spread_told (small_next {n} {l} a g) (small_next {n = m} {l = k} b h) e =
      let t = number_told n m _ _ a b (spread_begun l (c ∷ x) other) (spread_begun k (c ∷ y) other) (tail-eq_of_cons-eq (simp spread_next at e)) in
      let r = spread_told g h t.1 in
      (ap₂ ◌∷◌ t.0 r.0, r.1)

  pub joined_told : {l k : List ℕ} → Small l → Small k → joined (ascii " ") (map decimal l) ++ (c ∷ x) ≡ joined (ascii " ") (map decimal k) ++ (c ∷ y) → (l ≡ k) × (x ≡ y)
  joined_told small_none small_none e = (refl, tail-eq_of_cons-eq (simp joined_end at e))
  joined_told small_none (small_next {n} b h) e = absurd (clash other (ap begun (simp (joined_end, joined_next) at e) ∙ decimal_begun n _))
  joined_told (small_next {n} a g) small_none e = absurd (clash other (sym (ap begun (simp (joined_end, joined_next) at e)) ∙ decimal_begun n _))
  joined_told (small_next a g) (small_next b h) e =
      spread_told (small_next a g) (small_next b h) (simp spread_next (ap (λ (t : List ℕ). 32 ∷ t) (simp joined_next at e)))

-- ---- the list of those numbers that pass a test tells which pass
pub chosen_small : (p : ℕ → Bool) (s k : ℕ) → s + k ≤ 10 ^ 20 → Small (chosen p (numbers s k))
unfolding chosen numbers
chosen_small p s zero h = small_none
chosen_small p s (suc k) h =
    let later = chosen_small p (suc s) k (omega arith) in
    cond_cases (p s) Small _ _ (λ t. small_next (omega arith) later) (λ t. later)

-- i is in a list
has : ℕ → List ℕ → Bool
has i [] = false
has i (x ∷ l) = or (eqb i x) (has i l)

has_lower : (p : ℕ → Bool) (s k i : ℕ) → i < s → has i (chosen p (numbers s k)) ≡ false
unfolding chosen numbers has
has_lower p s zero i l = refl
has_lower p s (suc k) i l =
    let later = has_lower p (suc s) k i (omega arith) in
    cond_cases (p s) (λ r. has i r ≡ false) _ _ (λ t. or_false (ne_eqb i s (omega arith)) later) (λ t. later)

has_chosen : (p : ℕ → Bool) (s k i : ℕ) → s ≤ i → i < s + k → has i (chosen p (numbers s k)) ≡ p i
unfolding chosen numbers has
has_chosen p s zero i a b = absurd (omega arith)
has_chosen p s (suc k) i a b =
    by_cases (dec_lt s i)
    (λ l.
    let later = has_chosen p (suc s) k i l (omega arith) in
    cond_cases (p s) (λ r. has i r ≡ p i) _ _ (λ t. or_false_l _ (ne_eqb i s (omega arith)) ∙ later) (λ t. later))
    (λ l.
    let e : i ≡ s = omega arith in
    cond_cases (p s) (λ r. has i r ≡ p i) _ _ (λ t. or_l _ (eq-eqb i s e) ∙ sym (ap p e ∙ t)) (λ t. has_lower p (suc s) k i (omega arith) ∙ sym (ap p e ∙ t)))

pub chosen_told : (p q : ℕ → Bool) (n : ℕ) → chosen p (below n) ≡ chosen q (below n) → (i : ℕ) → i < n → p i ≡ q i
chosen_told p q n e i h = sym (has_chosen p 0 n i (omega arith) (omega arith)) ∙ ap (has i) e ∙ has_chosen q 0 n i (omega arith) (omega arith)
