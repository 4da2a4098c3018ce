-- Laws of decimal digits: their number, and that they tell numbers apart.
use Rattle.std.specs.Prelude.{List, [], ◌∷◌, ◌++◌, ◌≡◌, refl, ℕ, zero, suc, ◌+◌, ◌*◌, ◌-◌, ◌/◌, ◌%◌, ◌^◌, ◌≤◌, ◌<◌, length}
use Rattle.std.proofs.Math.Logic.{by_cases}
use Rattle.std.proofs.Common.{sym, ap, ◌∙◌, mod-eq_of_lt, arith, lt-ltb, le-ltb, length-append}
use Rattle.std.proofs.Math.Decide.{dec_lt}
use Rattle.std.specs.Fmt.{decimal as digits_printed}
use Rattle.std.proofs.lemmas.Fmt.{AppendsLastDigit, decimal_from_appends, length-decimal-le}
use Rattle.text.specs.Decimal.{digits_up_to, decimal, value_from}

-- ---- one digit, and one digit more
pub up_to_one : (k n : ℕ) → n < 10 → digits_up_to (suc k) n ≡ (48 + n) ∷ []
unfolding digits_up_to
up_to_one k n l = rw (lt-ltb n 10 l, mod-eq_of_lt l)

pub up_to_more : (k n : ℕ) → 10 ≤ n → digits_up_to (suc k) n ≡ digits_up_to k (n / 10) ++ ((48 + n % 10) ∷ [])
unfolding digits_up_to
up_to_more k n l = rw (le-ltb n 10 l)

-- room for more digits than a number has changes nothing
enough : (k n : ℕ) → n < 10 ^ suc k → digits_up_to (suc k) n ≡ digits_up_to (suc (suc k)) n
enough zero n h = up_to_one zero n (omega arith) ∙ sym (up_to_one 1 n (omega arith))
enough (suc k) n h =
    by_cases (dec_lt n 10)
    (λ l. up_to_one (suc k) n l ∙ sym (up_to_one (suc (suc k)) n l))
    (λ l. up_to_more (suc k) n (omega arith) ∙ ap (λ (ds : List ℕ). ds ++ ((48 + n % 10) ∷ [])) (enough k (n / 10) (omega arith)) ∙ sym (up_to_more (suc (suc k)) n (omega arith)))

pub decimal_one : (n : ℕ) → n < 10 → decimal n ≡ (48 + n) ∷ []
unfolding decimal
decimal_one n l = up_to_one 19 n l

pub decimal_more : (n : ℕ) → 10 ≤ n → n < 10 ^ 20 → decimal n ≡ decimal (n / 10) ++ ((48 + n % 10) ∷ [])
unfolding decimal
decimal_more n l h = up_to_more 19 n l ∙ ap (λ (ds : List ℕ). ds ++ ((48 + n % 10) ∷ [])) (enough 18 (n / 10) (omega arith))

-- ---- how many digits: 1 to 20
up_to_some : (k n : ℕ) → 1 ≤ length (digits_up_to (suc k) n)
up_to_some k n =
    by_cases (dec_lt n 10)
    (λ l. omega (arith, ap length (up_to_one k n l)))
    (λ l. omega (arith, simp length-append at (ap length (up_to_more k n (omega arith)))))

up_to_most : (k n : ℕ) → length (digits_up_to k n) ≤ k
unfolding digits_up_to
up_to_most zero n = omega arith
up_to_most (suc k) n =
    by_cases (dec_lt n 10)
    (λ l. omega (arith, ap length (up_to_one k n l)))
    (λ l. omega (arith, up_to_most k (n / 10), simp length-append at (ap length (up_to_more k n (omega arith)))))

pub decimal_some : (n : ℕ) → 1 ≤ length (decimal n)
unfolding decimal
decimal_some n = up_to_some 19 n

pub decimal_most : (n : ℕ) → length (decimal n) ≤ 20
unfolding decimal
decimal_most n = up_to_most 20 n

-- and no more than a bound below a power of ten tells
pub decimal_short : (k n : ℕ) → n < 10 ^ suc k → n < 10 ^ 20 → length (decimal n) ≤ suc k
decimal_short zero n h b = omega (arith, ap length (decimal_one n (omega arith)))
decimal_short (suc k) n h b =
    by_cases (dec_lt n 10)
    (λ l. omega (arith, ap length (decimal_one n l)))
    (λ l. omega (arith, decimal_short k (n / 10) (omega arith) (omega arith), simp length-append at (ap length (decimal_more n (omega arith) b))))

-- ---- the number again
value_more : (v : ℕ) (ds : List ℕ) (d : ℕ) → value_from v (ds ++ (d ∷ [])) ≡ value_from v ds * 10 + (d - 48)
unfolding value_from
value_more v [] d = refl
value_more v (a ∷ ds) d = value_more (v * 10 + (a - 48)) ds d

up_to_value : (k n : ℕ) → n < 10 ^ suc k → value_from 0 (digits_up_to (suc k) n) ≡ n
unfolding value_from
up_to_value zero n h = rw (up_to_one zero n (omega arith)) (omega arith)
up_to_value (suc k) n h =
    by_cases (dec_lt n 10)
    (λ l. rw (up_to_one (suc k) n l) (omega arith))
    (λ l.
    ap (value_from 0) (up_to_more (suc k) n (omega arith))
    ∙ value_more 0 (digits_up_to (suc k) (n / 10)) (48 + n % 10)
    ∙ omega (arith, up_to_value k (n / 10) (omega arith)))

pub decimal_value : (n : ℕ) → n < 10 ^ 20 → value_from 0 (decimal n) ≡ n
unfolding decimal
decimal_value n h = up_to_value 19 n h

-- two numbers with the same digits are the same
pub decimal_apart : (m n : ℕ) → m < 10 ^ 20 → n < 10 ^ 20 → decimal m ≡ decimal n → m ≡ n
decimal_apart m n hm hn e = sym (decimal_value m hm) ∙ ap (value_from 0) e ∙ decimal_value n hn

-- they are what the library prints
printed_last : AppendsLastDigit digits_up_to
unfolding digits_up_to
printed_last = record { one = λ k n l. up_to_one k n l; more = λ k n l. up_to_more k n l }

pub printed : (n : ℕ) → n < 2 ^ 64 → digits_printed n ≡ decimal n
unfolding decimal
printed n h = sym (decimal_from_appends digits_up_to printed_last 20 n h (length-decimal-le 20 n (omega arith) (omega arith) h))
