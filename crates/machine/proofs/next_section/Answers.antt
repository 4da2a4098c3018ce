-- After the last section, and past it, comes 0; before it the sum is in range.
use mathlib.Core.Path.{sym}
use native.Mathlib.Omega.{arith}
use Rattle.machine.specs.StepLaws.{next_wrap, next_step}
use Rattle.machine.proofs.next_section.Goals as goal

pub returns-then-n-j : goal.returns-then-n-j
returns-then-n-j c = let x = c.args in sym (next_wrap x.n x.j (omega arith))

pub returns-then-j-n : goal.returns-then-j-n
returns-then-j-n c = let x = c.args in omega (arith, next_step x.n x.j (omega arith))

pub returns-else-j-n : goal.returns-else-j-n
returns-else-j-n c = let x = c.args in sym (next_wrap x.n x.j (omega arith))
