-- Tests. They mean what the library's `&&`, `||` and `not` mean, and stay shut, so that a proof can name their arguments.
use Rattle.std.specs.Prelude.{Bool, true, false}

unfoldable pub not : Bool → Bool
not true = false
not false = true

unfoldable pub and : Bool → Bool → Bool
and true b = b
and false b = false

unfoldable pub or : Bool → Bool → Bool
or true b = true
or false b = b
