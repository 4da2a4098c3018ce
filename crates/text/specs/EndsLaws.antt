-- Laws of a number's text with other text behind it: it has digits only, and ends at the first byte that is none.
use Rattle.std.specs.Prelude.{Bool, true, false, ◌≡◌, refl, ℕ, zero, suc, ◌+◌, ◌/◌, ◌%◌, ◌^◌, ◌≤◌, ◌<◌, length, get_or}
use mathlib.Core.List.{List, [], ◌∷◌, ◌++◌, head-eq_of_cons-eq, tail-eq_of_cons-eq}
use Rattle.std.proofs.Math.Logic.{by_cases}
use Rattle.std.proofs.Common.{sym, ap, ap₂, ◌∙◌, arith, le-leb}
use Rattle.std.proofs.Math.Decide.{dec_lt}
use Rattle.mask.specs.LogicLaws.{clash, and_i}
use Rattle.text.specs.Decimal.{digits_up_to, decimal, is_digit}
use Rattle.text.specs.DecimalLaws.{up_to_one, up_to_more, decimal_some, decimal_apart}

-- ---- digits
pub digit_is : (d : ℕ) → d < 10 → is_digit (48 + d) ≡ true
unfolding is_digit
digit_is d h = and_i (le-leb 48 (48 + d) (omega arith)) (le-leb (48 + d) 57 (omega arith))

data Digits : List ℕ → Type 0 where
  none : Digits []
  next : {d : ℕ} {u : List ℕ} → is_digit d ≡ true → Digits u → Digits (d ∷ u)

digits_append : {u v : List ℕ} → Digits u → Digits v → Digits (u ++ v)
digits_append none h = h
digits_append (next d g) h = next d (digits_append g h)

one_digit : (n : ℕ) → n < 10 → Digits ((48 + n) ∷ [])
one_digit n l = next (digit_is n l) none

up_to_digits : (k n : ℕ) → Digits (digits_up_to k n)
unfolding digits_up_to
up_to_digits zero n = none
up_to_digits (suc k) n =
    by_cases (dec_lt n 10) (λ l. rw (up_to_one k n l) (one_digit n l))
    (λ l. rw (up_to_more k n (omega arith)) (digits_append (up_to_digits k (n / 10)) (one_digit (n % 10) (omega arith))))

decimal_digits : (n : ℕ) → Digits (decimal n)
unfolding decimal
decimal_digits n = up_to_digits 20 n

-- the first byte of a text is a digit; an empty text has none
abbrev pub begun : List ℕ → Bool
begun x = is_digit (get_or x 0 0)

-- a number's text begins with a digit
pub decimal_begun : (n : ℕ) (x : List ℕ) → begun (decimal n ++ x) ≡ true
decimal_begun n x = go (decimal_digits n) (decimal_some n)
  where
    go : {u : List ℕ} → Digits u → 1 ≤ length u → begun (u ++ x) ≡ true
    go none l = absurd (omega arith)
    go (next d g) l = d

-- digits end where another byte or the end is
cut : {u v : List ℕ} (x y : List ℕ) → Digits u → Digits v → begun x ≡ false → begun y ≡ false → u ++ x ≡ v ++ y → (u ≡ v) × (x ≡ y)
cut x y none none p q e = (refl, e)
cut x y none (next d g) p q e = absurd (clash p (ap begun e ∙ d))
cut x y (next d g) none p q e = absurd (clash q (sym (ap begun e) ∙ d))
cut x y (next d g) (next f h) p q e =
    let r = cut x y g h p q (tail-eq_of_cons-eq e) in
    (ap₂ ◌∷◌ (head-eq_of_cons-eq e) r.0, r.1)

-- a number ends there too, and is told
pub number_told : (m n : ℕ) (x y : List ℕ) → m < 10 ^ 20 → n < 10 ^ 20 → begun x ≡ false → begun y ≡ false → decimal m ++ x ≡ decimal n ++ y → (m ≡ n) × (x ≡ y)
number_told m n x y hm hn p q e =
    let r = cut x y (decimal_digits m) (decimal_digits n) p q e in
    (decimal_apart m n hm hn r.0, r.1)
