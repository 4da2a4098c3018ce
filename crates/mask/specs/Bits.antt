-- The bits of a mask. Document 01: "A mask is 64 bits wide; bit s means state s."
use Rattle.std.specs.Prelude.{Bool, cond, ℕ, ◌-◌, ◌/◌, ◌%◌, ◌^◌, eqb, ltb}
use Rattle.std.specs.Int.Bits.{bit_and, bit_or}
use Rattle.std.specs.Int.Count.{count_trailing_zeros}

-- state s is in the mask m
unfoldable pub has_bit : ℕ → ℕ → Bool
has_bit m s = eqb (m / 2 ^ s % 2) 1

-- the lowest state of a mask of w bits, by its trailing zeros; w for the empty mask
unfoldable pub lowest_of : ℕ → ℕ → ℕ
lowest_of w m = count_trailing_zeros w m

-- the mask without its lowest state
unfoldable pub rest_of : ℕ → ℕ
rest_of m = bit_and m (m - 1)

-- the mask of all states below w
unfoldable pub full_mask : ℕ → ℕ
full_mask w = 2 ^ w - 1

-- the mask with state s; a mask has no state of 64 or more
unfoldable pub with_bit : ℕ → ℕ → ℕ
with_bit m s = cond (ltb s 64) (bit_or m (2 ^ s)) m
