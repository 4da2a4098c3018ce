-- A mask has a bit at or past n exactly if its shift by n is not 0; at 64 and more there is none.
use mathlib.Core.Path.{sym}
use native.Mathlib.Omega.{arith}
use Rattle.machine.specs.BeyondLaws.{beyond_shift, past_beyond}
use Rattle.validity.proofs.has_beyond.Goals as goal

pub returns-then-n-lt64 : goal.returns-then-n-lt64
returns-then-n-lt64 c = let s = c.args in beyond_shift s.n s.m (omega arith)

pub returns-else-n-lt64 : goal.returns-else-n-lt64
returns-else-n-lt64 c = let s = c.args in sym (past_beyond s.n s.m (omega arith))
