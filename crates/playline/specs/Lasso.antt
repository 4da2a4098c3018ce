-- A lasso as text: `0 1 / 2 3`. States are runs of decimal digits, with blanks between them; one stroke stands between stem and loop.
use Rattle.std.specs.Prelude.{Bool, true, false, cond, List, [], ◌∷◌, ◌++◌, ℕ, suc, ◌+◌, ◌*◌, ◌-◌, min, length, get_or, take, drop, eqb, ltb}
use Rattle.mask.specs.Logic.{and, or}
use Rattle.mask.specs.Bounded.{every, first}
use Rattle.text.specs.Decimal.{decimal, is_digit}
use Rattle.machine.specs.Lassos.{Lasso, given}

-- ---- reading
-- the number with one digit more; a number over 255 counts as 255, which is no state either
unfoldable pub grown : ℕ → ℕ → ℕ
grown n b = min 255 (n * 10 + (b - 48))

-- the numbers that a text writes; where it begins inside a number, n is what that number's digits so far write
unfoldable pub numbers_from : Bool → ℕ → List ℕ → List ℕ
numbers_from inside n [] = cond inside (n ∷ []) []
numbers_from inside n (b ∷ t) =
    let longer = numbers_from true (grown n b) t in
    let after = numbers_from false 0 t in
    cond (is_digit b) longer (cond inside (n ∷ after) after)

-- the numbers of a text, at most 65, which is one more than a lasso may have
unfoldable pub numbers_in : List ℕ → List ℕ
numbers_in t = take 65 (numbers_from false 0 t)

-- a byte of stem or loop: a digit or a blank
unfoldable pub is_plain : ℕ → Bool
is_plain b = or (is_digit b) (eqb b 32)

-- where the first stroke stands; the text's length where there is none
unfoldable pub stroke_at : List ℕ → ℕ
stroke_at t = first (length t) (λ i. eqb (get_or t i 0) 47)

-- the text is a stem, a stroke and a loop
unfoldable pub readable : List ℕ → Bool
readable t = and (ltb (stroke_at t) (length t)) (every (length t) (λ i. or (eqb i (stroke_at t)) (is_plain (get_or t i 0))))

-- the lasso of a readable text
unfoldable pub lasso_in : List ℕ → Lasso
lasso_in t = given (numbers_in (take (stroke_at t) t)) (numbers_in (drop (suc (stroke_at t)) t))

-- ---- writing
-- a blank before each state
unfoldable pub states_text : List ℕ → List ℕ
states_text [] = []
states_text (s ∷ l) = 32 ∷ (decimal s ++ states_text l)

-- and before the stroke
unfoldable pub lasso_text : List ℕ → List ℕ → List ℕ
lasso_text stem loop = states_text stem ++ (32 ∷ 47 ∷ states_text loop)
