-- The statement's proof.
use Rattle.std.specs.Prelude.{Bool, true, false, List, [], ◌∷◌, ◌++◌, ◌≡◌, refl, ℕ, suc, ◌+◌, ◌*◌, ◌/◌, ◌%◌, ◌≤◌, ◌<◌, length, take}
use Rattle.std.proofs.Common.{append_assoc, append-nil, sym, ap, ap₂, ◌∙◌, arith, take_all}
use Rattle.mask.specs.Logic.{and, or}
use Rattle.text.specs.Decimal.{decimal, is_digit}
use Rattle.text.specs.EndsLaws.{digit_is}
use Rattle.codec.specs.Statements.{AreBytes}
use Rattle.machine.specs.Lassos.{given}
use Rattle.playline.specs.Lasso.{grown, is_plain, numbers_from, numbers_in, readable, lasso_in, states_text, lasso_text}
use Rattle.playline.specs.LassoLaws.{Decimal, one_digit, digit_more, byte_decimal, Plain, none, more, plain_append, plain_digit, numbers_digit, numbers_end, numbers_blank, readable_between, lasso_between}
use Rattle.playline.specs.Statements.{LassoReadsBack}

-- ---- a number
-- a digit behind the digits of n
digit_reads : (inside : Bool) (n d s : ℕ) (t : List ℕ) → d < 10 → s < 256 → n * 10 + d ≡ s → numbers_from inside n ((48 + d) ∷ t) ≡ numbers_from true s t
unfolding grown
digit_reads inside n d s t h b e =
    let m : grown n (48 + d) ≡ s = omega arith in
    numbers_digit inside n (48 + d) t (digit_is d h) ∙ ap (λ (k : ℕ). numbers_from true k t) m

number_reads : {k s : ℕ} {ds : List ℕ} → Decimal k s ds → s < 256 → (t : List ℕ) → numbers_from false 0 (ds ++ t) ≡ numbers_from true s t
number_reads (one_digit {n = s} l) b t = digit_reads false 0 s s t l b (omega arith)
number_reads (digit_more {n = s} {ds = ds} d) b t =
    ap (numbers_from false 0) (append_assoc ds ((48 + s % 10) ∷ []) t)
    ∙ number_reads d (omega arith) ((48 + s % 10) ∷ t)
    ∙ digit_reads true (s / 10) (s % 10) s t (omega arith) b (omega arith)

number_plain : {k s : ℕ} {ds : List ℕ} → Decimal k s ds → Plain ds
number_plain (one_digit {n = s} l) = more (sym (plain_digit _ (digit_is s l))) none
number_plain (digit_more {n = s} d) = plain_append (number_plain d) (more (sym (plain_digit _ (digit_is (s % 10) (omega arith)))) none)

-- ---- states
blank_plain : is_plain 32 ≡ true
unfolding is_plain is_digit and or
blank_plain = refl

blank_digit : is_digit 32 ≡ false
unfolding is_digit and
blank_digit = refl

states_plain : (l : List ℕ) → AreBytes l → Plain (states_text l)
unfolding states_text
states_plain [] h = none
states_plain (s ∷ l) h = more blank_plain (plain_append (number_plain (byte_decimal s (h 0))) (states_plain l (λ i. h (suc i))))

-- a text that ends a number before it
abbrev Ends : List ℕ → Type 0
Ends t = (n : ℕ) → numbers_from true n t ≡ n ∷ numbers_from false 0 t

blank_ends : (t : List ℕ) → Ends (32 ∷ t)
blank_ends t n = numbers_end true n 32 t refl blank_digit ∙ ap (λ (l : List ℕ). n ∷ l) (sym (numbers_blank false 0 32 t refl blank_digit))

states_end : (l t : List ℕ) → Ends t → Ends (states_text l ++ t)
unfolding states_text
states_end [] t e = e
states_end (s ∷ l) t e = blank_ends (decimal s ++ states_text l ++ t)

states_read : (l t : List ℕ) → AreBytes l → Ends t → numbers_from false 0 (states_text l ++ t) ≡ l ++ numbers_from false 0 t
unfolding states_text
states_read [] t h e = refl
states_read (s ∷ l) t h e =
    numbers_blank false 0 32 (decimal s ++ states_text l ++ t) refl blank_digit
    ∙ ap (numbers_from false 0) (append_assoc (decimal s) (states_text l) t)
    ∙ number_reads (byte_decimal s (h 0)) (h 0) (states_text l ++ t)
    ∙ states_end l t e s
    ∙ ap (λ (r : List ℕ). s ∷ r) (states_read l t (λ i. h (suc i)) e)

-- where no number follows, these are the text's numbers
states_numbers : (l t : List ℕ) → AreBytes l → length l ≤ 64 → Ends t → numbers_from false 0 t ≡ [] → numbers_in (states_text l ++ t) ≡ l
unfolding numbers_in
states_numbers l t h b e n =
    ap (take 65) (states_read l t h e ∙ ap (λ (r : List ℕ). l ++ r) n ∙ append-nil l) ∙ take_all 65 l (omega arith)

-- ---- the lasso
pub lasso_reads_back : LassoReadsBack
unfolding lasso_text numbers_from is_digit and
lasso_reads_back stem loop p q h k =
    let front : List ℕ = states_text stem ++ (32 ∷ []) in
    let back : List ℕ = states_text loop in
    let cut : states_text stem ++ (32 ∷ 47 ∷ back) ≡ front ++ (47 ∷ back) = sym (append_assoc (states_text stem) (32 ∷ []) (47 ∷ back)) in
    let plain_front : Plain front = plain_append (states_plain stem p) (more blank_plain none) in
    let plain_back : Plain back = states_plain loop q in
    let stem_is : numbers_in front ≡ stem = states_numbers stem (32 ∷ []) p h (blank_ends []) refl in
    let loop_is : numbers_in back ≡ loop = ap numbers_in (sym (append-nil back)) ∙ states_numbers loop [] q k (λ n. refl) refl in (
      ap readable cut ∙ readable_between front back plain_front plain_back,
      ap lasso_in cut ∙ lasso_between front back plain_front plain_back ∙ ap₂ given stem_is loop_is,
    )
