-- Laws of reading a lasso.
use Rattle.std.specs.Prelude.{Bool, true, false, Option, Some, None, unwrap_or, ◌≡◌, refl, ℕ, zero, suc, ◌+◌, ◌-◌, ◌/◌, ◌%◌, ◌^◌, ◌≤◌, ◌<◌, ltb, eqb, length, get_or, MatchBool}
use Rattle.std.specs.Char.{IsAsciiDigit, IsNotAsciiDigit}
use Rattle.std.proofs.lemmas.Bool.{false≢true}
use mathlib.Core.List.{List, [], ◌∷◌, ◌++◌, append-nil}
use Rattle.std.proofs.Math.Path.{sym, ap, ap₂, subst₂}
use Rattle.arrayvec.specs.ArrayVec.{ArrayVec}
use Rattle.std.proofs.Common.{◌∙◌, add-one, arith, length-append, length-take, drop_of_length-le, drop-cons, take_all, get_or-append-add, get_or-take, get_or-drop}
use Rattle.std.proofs.Math.Logic.{by_cases}
use Rattle.std.proofs.Math.Decide.{dec_lt, ℕ_discrete}
use borrow.Author.Tests.{leb-true, le-leb, lt-leb, lt-ltb, le-ltb, eq-eqb, ne_eqb}
use Rattle.std.proofs.Math.ListN.{take, drop, get_or-append, length-drop}
use Rattle.std.proofs.Math.Seq.{get_or-append_seam, take-append_seam, drop-append-add}
use Rattle.text.specs.Decimal.{decimal, is_digit}
use Rattle.text.specs.DecimalLaws.{decimal_one, decimal_more}
use Rattle.text.specs.AppendLaws.{cut_two}
use Rattle.machine.specs.Lassos.{given}
use Rattle.mask.specs.Logic.{and, or}
use Rattle.mask.specs.Bounded.{every, below}
use Rattle.mask.specs.LogicLaws.{and_l, and_r, and_i, and_false_l, and_false_r, or_l, or_r, or_false_l}
use Rattle.mask.specs.BoundedLaws.{every_of, every_at, first_is}
use Rattle.playline.specs.Lasso.{grown, numbers_from, numbers_in, is_plain, stroke_at, readable, lasso_in}

-- ---- bytes
pub digit_least : (b : ℕ) → is_digit b ≡ true → 48 ≤ b
unfolding is_digit
digit_least b t = leb-true 48 b (and_l _ _ t)

pub digit_told : (b : ℕ) (r : Bool) → MatchBool r (IsAsciiDigit b) (IsNotAsciiDigit b) → r ≡ is_digit b
unfolding is_digit
digit_told b true h = sym (and_i (le-leb 48 b (omega (arith, h))) (le-leb b 57 (omega (arith, h))))
digit_told b false h = by_cases (dec_lt b 48) (λ l. sym (and_false_l _ (lt-leb 48 b l))) (λ l. sym (and_false_r _ (lt-leb b 57 (omega (arith, h)))))

pub plain_digit : (b : ℕ) → is_digit b ≡ true → true ≡ is_plain b
unfolding is_plain
plain_digit b t = sym (or_l _ t)

pub plain_other : (b : ℕ) → is_digit b ≡ false → eqb b 32 ≡ is_plain b
unfolding is_plain
plain_other b t = sym (or_false_l _ t)

-- ---- numbers, byte by byte
module _ (inside : Bool) (n b : ℕ) (t : List ℕ) where
  pub numbers_digit : is_digit b ≡ true → numbers_from inside n (b ∷ t) ≡ numbers_from true (grown n b) t
  unfolding numbers_from
  numbers_digit e = rw e

  pub numbers_end : inside ≡ true → is_digit b ≡ false → numbers_from inside n (b ∷ t) ≡ n ∷ numbers_from false 0 t
  unfolding numbers_from
  numbers_end o e = rw (e, o)

  pub numbers_blank : inside ≡ false → is_digit b ≡ false → numbers_from inside n (b ∷ t) ≡ numbers_from false 0 t
  unfolding numbers_from
  numbers_blank o e = rw (e, o)

-- ---- a text that is read up to a place
pub drop_next : (l : List ℕ) (i : ℕ) → i < length l → drop i l ≡ get_or l i 0 ∷ drop (i + 1) l
drop_next l i h = drop-cons l i 0 h ∙ ap (λ (k : ℕ). get_or l i 0 ∷ drop k l) (sym (add-one i))

-- the numbers of a text that begins with n, or inside no number
abbrev pub numbers_begun : Option ℕ → List ℕ → List ℕ
numbers_begun None t = numbers_from false 0 t
numbers_begun (Some n) t = numbers_from true n t

begun_digit : (o : Option ℕ) (b : ℕ) (t : List ℕ) → is_digit b ≡ true → numbers_begun o (b ∷ t) ≡ numbers_from true (grown (unwrap_or o 0) b) t
begun_digit None b t e = numbers_digit false 0 b t e
begun_digit (Some n) b t e = numbers_digit true n b t e

-- the numbers that were read and those of what is left are the text's
pub record Read (text list : List ℕ) (begun : Option ℕ) (i : ℕ) : Type 0 where
  pub count : length list ≤ 65
  pub all : take 65 (list ++ numbers_begun begun (drop i text)) ≡ numbers_in text

pub read_as : {text : List ℕ} {list l : ArrayVec ℕ} {begun o : Option ℕ} {i : ℕ} → l ≡ list → o ≡ begun → Read text list.items begun i → Read text l.items o i
read_as {text} {i = i} p q r = subst₂ (λ (l : ArrayVec ℕ) (o : Option ℕ). Read text l.items o i) (sym p) (sym q) r

pub read_none : (text : List ℕ) {list : List ℕ} → list ≡ [] → Read text list None 0
unfolding numbers_in
read_none text e = record { count = omega (arith, ap length e); all = ap (λ (l : List ℕ). take 65 (l ++ numbers_from false 0 text)) e }

module _ {text list : List ℕ} {begun : Option ℕ} {i : ℕ} (r : Read text list begun i) where
  -- what is left, by the byte at the place
  left : (l : List ℕ) → i < length text → numbers_begun begun (get_or text i 0 ∷ drop (i + 1) text) ≡ l → take 65 (list ++ l) ≡ numbers_in text
  left l h e = ap (λ (m : List ℕ). take 65 (list ++ m)) (sym (ap (numbers_begun begun) (drop_next text i h) ∙ e)) ∙ r.all

  pub read_digit : (n : ℕ) → i < length text → is_digit (get_or text i 0) ≡ true → n ≡ grown (unwrap_or begun 0) (get_or text i 0) → Read text list (Some n) (i + 1)
  read_digit n h t e = record {
    count = r.count;
    all = left _ h (begun_digit begun _ _ t ∙ ap (λ (m : ℕ). numbers_from true m (drop (i + 1) text)) (sym e));
  }

  pub read_blank : begun ≡ None → i < length text → is_digit (get_or text i 0) ≡ false → Read text list None (i + 1)
  read_blank e h t = record {
    count = r.count;
    all = left _ h (ap (λ (o : Option ℕ). numbers_begun o (get_or text i 0 ∷ drop (i + 1) text)) e ∙ numbers_blank false 0 _ _ refl t);
  }

  module _ {n : ℕ} {more : List ℕ} (e : begun ≡ Some n) (m : more ≡ take 65 (list ++ (n ∷ []))) where
    -- a number ends
    pub read_end : i < length text → is_digit (get_or text i 0) ≡ false → Read text more None (i + 1)
    read_end h t =
        let rest : List ℕ = numbers_from false 0 (drop (i + 1) text) in
        record {
          count = omega (arith, ap length m, length-take 65 (list ++ (n ∷ [])));
          all =
              ap (λ (l : List ℕ). take 65 (l ++ rest)) m
              ∙ cut_two 65 list (n ∷ []) rest
              ∙ left (n ∷ rest) h (ap (λ (o : Option ℕ). numbers_begun o (get_or text i 0 ∷ drop (i + 1) text)) e ∙ numbers_end true n _ _ refl t);
        }

    pub read_last : length text ≤ i → more ≡ numbers_in text
    unfolding numbers_from
    read_last h = m ∙ ap₂ (λ (o : Option ℕ) (l : List ℕ). take 65 (list ++ numbers_begun o l)) (sym e) (sym (drop_of_length-le text h)) ∙ r.all

  pub read_all : begun ≡ None → length text ≤ i → list ≡ numbers_in text
  unfolding numbers_from
  read_all e h =
      sym (take_all 65 list r.count) ∙ ap (take 65) (sym (append-nil list))
      ∙ ap₂ (λ (o : Option ℕ) (l : List ℕ). take 65 (list ++ numbers_begun o l)) (sym e) (sym (drop_of_length-le text h)) ∙ r.all

-- ---- the stroke
module _ (t : List ℕ) where
  pub stroke_is : (i : ℕ) → i < length t → get_or t i 0 ≡ 47 → ((k : ℕ) → k < i → get_or t k 0 ≡ 47 → ⊥) → i ≡ stroke_at t
  unfolding stroke_at
  stroke_is i h e b = sym (first_is (length t) _ i h (eq-eqb _ _ e) (λ k l. ne_eqb _ _ (b k l)))

  pub stroke_found : {k : ℕ} → Some k ≡ below (length t) (stroke_at t) → (k ≡ stroke_at t) × (k < length t)
  unfolding below
  stroke_found {k} h =
      by_cases (dec_lt (stroke_at t) (length t))
      (λ l. let e : k ≡ stroke_at t = ap (λ (o : Option ℕ). unwrap_or o 0) (rw (lt-ltb _ _ l) at h) in (e, omega arith))
      (λ l. let past : length t ≤ stroke_at t = omega arith in let e : Some k ≡ None = rw (le-ltb _ _ past) at h in cc)

-- ---- a readable text
-- at place i stands the stroke or a plain byte
abbrev pub fits : List ℕ → ℕ → ℕ → Bool
fits t stroke i = or (eqb i stroke) (is_plain (get_or t i 0))

module _ (t : List ℕ) (stroke : ℕ) (at : stroke ≡ stroke_at t) where
  readable_is : readable t ≡ and (ltb stroke (length t)) (every (length t) (fits t stroke))
  unfolding readable
  readable_is = ap (λ (k : ℕ). and (ltb k (length t)) (every (length t) (fits t k))) (sym at)

  pub readable_whole : stroke < length t → ((k : ℕ) → k < length t → fits t stroke k ≡ true) → true ≡ readable t
  readable_whole h f = sym (readable_is ∙ and_i (lt-ltb _ _ h) (every_of (length t) (fits t stroke) f))

-- each byte is a digit or a blank
abbrev pub plain : List ℕ → Bool
plain l = every (length l) (λ i. is_plain (get_or l i 0))

pub behind_stroke : (t : List ℕ) (k : ℕ) → take (length t - (k + 1)) (drop (k + 1) t) ≡ drop (k + 1) t
behind_stroke t k = take_all (length t - (k + 1)) (drop (k + 1) t) (omega (arith, length-drop (k + 1) t))

pub not_found : (t : List ℕ) → None ≡ below (length t) (stroke_at t) → readable t ≡ false
unfolding readable below
not_found t h =
    by_cases (dec_lt (stroke_at t) (length t))
    (λ l. let e : None ≡ Some (stroke_at t) = rw (lt-ltb _ _ l) at h in cc)
    (λ l. and_false_l _ (le-ltb _ _ (omega arith)))

-- a text with a stroke is readable exactly if the parts before and behind it are plain
module _ (t : List ℕ) (k : ℕ) (at : k ≡ stroke_at t) (low : k < length t) {a b : List ℕ} (a_is : a ≡ take k t) (b_is : b ≡ drop (k + 1) t) where
  a_length : length a ≡ k
  a_length = omega (arith, ap length a_is, length-take k t)

  b_length : length b ≡ length t - (k + 1)
  b_length = ap length b_is ∙ length-drop (k + 1) t

  a_at : (i : ℕ) → i < k → get_or a i 0 ≡ get_or t i 0
  a_at i h = ap (λ (l : List ℕ). get_or l i 0) a_is ∙ get_or-take k t i 0 h

  b_at : (i : ℕ) → get_or b i 0 ≡ get_or t (k + 1 + i) 0
  b_at i = ap (λ (l : List ℕ). get_or l i 0) b_is ∙ get_or-drop (k + 1) t i 0

  pub both_plain : plain a ≡ true → plain b ≡ true → readable t ≡ true
  both_plain p q =
      sym (readable_whole t k at low (λ i h.
      by_cases (dec_lt i k)
      (λ l. or_r _ (ap is_plain (sym (a_at i l)) ∙ every_at (length a) _ p i (omega (arith, a_length))))
      (λ l. by_cases (ℕ_discrete i k)
      (λ e. or_l _ (eq-eqb _ _ e))
      (λ n.
      let j = i - (k + 1) in
      let e : k + 1 + j ≡ i = omega arith in
      or_r _ (ap is_plain (sym (b_at j ∙ ap (λ (m : ℕ). get_or t m 0) e)) ∙ every_at (length b) _ q j (omega (arith, b_length)))))))

  fits_at : readable t ≡ true → (i : ℕ) → i < length t → (i ≡ k → ⊥) → is_plain (get_or t i 0) ≡ true
  fits_at r i h n = sym (or_false_l _ (ne_eqb i k n)) ∙ every_at (length t) (fits t k) (and_r _ _ (sym (readable_is t k at) ∙ r)) i h

  pub stem_plain : readable t ≡ true → plain a ≡ true
  stem_plain r = every_of (length a) _ (λ i h. ap is_plain (a_at i (omega (arith, a_length))) ∙ fits_at r i (omega (arith, a_length)) (λ e. omega (arith, a_length)))

  pub loop_plain : readable t ≡ true → plain b ≡ true
  loop_plain r = every_of (length b) _ (λ i h. ap is_plain (b_at i) ∙ fits_at r (k + 1 + i) (omega (arith, b_length)) (λ e. omega arith))

-- ---- the digits of a state
-- how the digits of n, at most k of them, come about
pub data Decimal : ℕ → ℕ → List ℕ → Type 0 where
  one_digit : {k n : ℕ} → n < 10 → Decimal (suc k) n ((48 + n) ∷ [])
  digit_more : {k n : ℕ} {ds : List ℕ} → Decimal k (n / 10) ds → Decimal (suc k) n (ds ++ ((48 + n % 10) ∷ []))

decimal_is : (k n : ℕ) → n < 10 ^ suc k → n < 10 ^ 20 → Decimal (suc k) n (decimal n)
decimal_is zero n h b = let l : n < 10 = omega arith in rw (decimal_one n l) (one_digit l)
decimal_is (suc k) n h b =
    by_cases (dec_lt n 10)
    (λ l. rw (decimal_one n l) (one_digit l))
    (λ l. rw (decimal_more n (omega arith) b) (digit_more (decimal_is k (n / 10) (omega arith) (omega arith))))

pub byte_decimal : (s : ℕ) → s < 256 → Decimal 3 s (decimal s)
byte_decimal s h = decimal_is 2 s (omega arith) (omega arith)

-- ---- plain bytes around a stroke
pub data Plain : List ℕ → Type 0 where
  none : Plain []
  more : {b : ℕ} {t : List ℕ} → is_plain b ≡ true → Plain t → Plain (b ∷ t)

pub plain_append : {a b : List ℕ} → Plain a → Plain b → Plain (a ++ b)
plain_append none q = q
plain_append (more p ps) q = more p (plain_append ps q)

plain_at : {l : List ℕ} → Plain l → (i : ℕ) → i < length l → is_plain (get_or l i 0) ≡ true
plain_at none i h = absurd (omega arith)
plain_at (more p ps) zero h = p
plain_at (more p ps) (suc i) h = plain_at ps i (omega arith)

stroke_not_plain : (b : ℕ) → is_plain b ≡ true → b ≡ 47 → ⊥
unfolding is_plain is_digit and or
stroke_not_plain b p e = false≢true (rw e at p)

module _ (front back : List ℕ) where
  abbrev between : List ℕ
  between = front ++ (47 ∷ back)

  between_length : length between ≡ length front + suc (length back)
  between_length = length-append front (47 ∷ back)

  between_front : (k : ℕ) → k < length front → get_or between k 0 ≡ get_or front k 0
  between_front k h = get_or-append front (47 ∷ back) 0 k h

  between_back : (k : ℕ) → length front < k → get_or between k 0 ≡ get_or back (k - suc (length front)) 0
  between_back k h =
      let j = k - suc (length front) in
      let e : k ≡ length front + suc j = omega arith in
      ap (λ (m : ℕ). get_or between m 0) e ∙ get_or-append-add front (47 ∷ back) (suc j) 0

  module _ (p : Plain front) (q : Plain back) where
    stroke_between : length front ≡ stroke_at between
    stroke_between =
        stroke_is between (length front) (omega (arith, between_length)) (get_or-append_seam front 47 back 0)
        (λ k h. stroke_not_plain _ (ap is_plain (between_front k h) ∙ plain_at p k h))

    fits_between : (k : ℕ) → k < length between → fits between (length front) k ≡ true
    fits_between k h =
        by_cases (dec_lt k (length front))
        (λ l. or_r _ (ap is_plain (between_front k l) ∙ plain_at p k l))
        (λ l. by_cases (ℕ_discrete k (length front))
        (λ e. or_l _ (eq-eqb _ _ e))
        (λ n. or_r _ (ap is_plain (between_back k (omega arith)) ∙ plain_at q _ (omega (arith, between_length)))))

    pub readable_between : readable (front ++ (47 ∷ back)) ≡ true
    readable_between = sym (readable_whole between (length front) stroke_between (omega (arith, between_length)) fits_between)

    pub lasso_between : lasso_in (front ++ (47 ∷ back)) ≡ given (numbers_in front) (numbers_in back)
    unfolding lasso_in
    lasso_between =
        ap (λ (k : ℕ). given (numbers_in (take k between)) (numbers_in (drop (suc k) between))) (sym stroke_between)
        ∙ ap₂ (λ (stem loop : List ℕ). given (numbers_in stem) (numbers_in loop)) (take-append_seam front (47 ∷ back))
        (ap (λ (k : ℕ). drop k between) (sym (add-one (length front))) ∙ drop-append-add front (47 ∷ back) 1)
