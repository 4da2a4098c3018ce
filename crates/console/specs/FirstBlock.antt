-- What the first block of a file tells, as one number for C.
use Rattle.std.specs.Prelude.{ℕ, Err, Ok}
use Rattle.machine.specs.Refusals.{Answer, number_of}

-- the length in bytes that the whole file must have, or the refusal's number
unfoldable pub size_number : Answer ℕ → ℕ
size_number (Ok n) = n
size_number (Err r) = number_of r
