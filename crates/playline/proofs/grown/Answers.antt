-- The smaller of 255 and the number with one digit more, one operation after the other.
use native.Mathlib.Omega.{arith}
use Rattle.playline.specs.Lasso.{grown}
use Rattle.playline.specs.LassoLaws.{digit_least}
use Rattle.playline.proofs.grown.Goals as goal

pub overflow_sub-b : goal.overflow_sub-b
overflow_sub-b c = digit_least _ c.requires

pub returns : goal.returns
unfolding grown
returns c = omega (arith, c.saturating_mul.ensures, c.saturating_add.ensures)
