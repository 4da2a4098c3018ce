-- The invariant: the bits of the rows before c are counted.
use native.Mathlib.Omega.{arith}
use Rattle.turnline.specs.CountLaws.{count_small, counting_none, counting_more, counting_all}
use Rattle.turnline.proofs.section_count.Goals as goal

pub loop-c-init : goal.loop-c-init
loop-c-init c = (omega arith, counting_none _ _ _)

pub overflow_add-n : goal.overflow_add-n
overflow_add-n c = let small = count_small _ c.size-n.ensures in omega (arith, c.loop-c.invariant.1.room)

pub loop-c-preserved : goal.loop-c-preserved
loop-c-preserved c = (omega arith, counting_more c.loop-c.invariant.1 _ c.size-n.ensures)

pub returns : goal.returns
returns c = counting_all c.loop-c.invariant.1 (omega arith)
