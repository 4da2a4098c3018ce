-- What an entry less one is multiplied with in place of a division by m; `ReciprocalLaws.antt` says that the product's 19 lowest bits, cut off, leave the quotient.
use Rattle.std.specs.Prelude.{ℕ, ◌+◌, ◌-◌, ◌/◌, ◌^◌}

-- 2^19 / m, rounded up
unfoldable pub reciprocal_of : ℕ → ℕ
reciprocal_of m = (2 ^ 19 + m - 1) / m
