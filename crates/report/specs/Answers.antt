-- The answer of the calls that make a line.
use Rattle.std.specs.Prelude.{List, ◌++◌, ℕ, ◌-◌, length, replicate}
use Rattle.report.specs.declared.Line.{Line}

-- the line with this text
unfoldable pub line_of : List ℕ → Line
line_of s = record { text = s ++ replicate (128 - length s) 0; length = length s }
