-- Text: the decimal digits of a number, in ASCII. (Bytes put at a place of a buffer are the library's `sets`.)
use Rattle.std.specs.Prelude.{Bool, cond, List, [], ◌∷◌, ◌++◌, ℕ, zero, suc, ◌+◌, ◌*◌, ◌-◌, ◌/◌, ◌%◌, leb, ltb}
use Rattle.mask.specs.Logic.{and}

-- the digits of a number that has at most k of them, with no zero in front of another digit
unfoldable pub digits_up_to : ℕ → ℕ → List ℕ
digits_up_to zero n = []
digits_up_to (suc k) n =
    let last = 48 + n % 10 in
    let more = digits_up_to k (n / 10) ++ (last ∷ []) in
    cond (ltb n 10) (last ∷ []) more

-- 20 digits hold every number of 64 bits
unfoldable pub decimal : ℕ → List ℕ
decimal n = digits_up_to 20 n

-- the number that digits write
unfoldable pub value_from : ℕ → List ℕ → ℕ
value_from n [] = n
value_from n (d ∷ ds) = value_from (n * 10 + (d - 48)) ds

-- a byte is a digit
unfoldable pub is_digit : ℕ → Bool
is_digit b = and (leb 48 b) (leb b 57)
