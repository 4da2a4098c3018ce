-- The answer of the call that gives a number's digits.
use Rattle.std.specs.Prelude.{◌++◌, ℕ, ◌-◌, length, replicate}
use Rattle.text.specs.declared.Digits.{Digits}
use Rattle.text.specs.Decimal.{decimal}

unfoldable pub digits_for : ℕ → Digits
digits_for n = record { bytes = replicate (20 - length (decimal n)) 0 ++ decimal n; start = 20 - length (decimal n) }
