-- "For every", "for some", "the first" and "how many" of the numbers below a bound, as tests; and over the states of a mask.
use Rattle.std.specs.Prelude.{Bool, true, false, cond, ℕ, zero, suc, ◌+◌, ltb, Option, Some, None}
use Rattle.mask.specs.Logic.{not, and, or}
use Rattle.mask.specs.Bits.{has_bit}

-- every number below n passes p
unfoldable pub every : ℕ → (ℕ → Bool) → Bool
every zero p = true
every (suc n) p = let lower = every n p in and (p n) lower

-- some number below n passes p
unfoldable pub some : ℕ → (ℕ → Bool) → Bool
some zero p = false
some (suc n) p = let lower = some n p in or (p n) lower

-- the first number below n that passes p, and n where none does
unfoldable pub first : ℕ → (ℕ → Bool) → ℕ
first zero p = 0
first (suc n) p = let later = suc (first n (λ i. p (suc i))) in cond (p 0) 0 later

-- the number i, if it is below n
unfoldable pub below : ℕ → ℕ → Option ℕ
below n i = cond (ltb i n) (Some i) None

-- the sum of f 0, .., f (n - 1)
unfoldable pub sum : ℕ → (ℕ → ℕ) → ℕ
sum zero f = 0
sum (suc n) f = sum n f + f n

-- how many numbers below n pass p
unfoldable pub count : ℕ → (ℕ → Bool) → ℕ
count n p = sum n (λ i. cond (p i) 1 0)

-- every state of the mask m below w passes p
unfoldable pub every_in : ℕ → ℕ → (ℕ → Bool) → Bool
every_in w m p = every w (λ s. or (not (has_bit m s)) (p s))

-- some state of the mask m below w passes p
unfoldable pub some_in : ℕ → ℕ → (ℕ → Bool) → Bool
some_in w m p = some w (λ s. and (has_bit m s) (p s))
