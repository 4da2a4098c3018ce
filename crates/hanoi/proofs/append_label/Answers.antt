-- The first bit, and then those that are left.
use native.Mathlib.Omega.{arith}
use Rattle.text.specs.AppendLaws.{left_first, left_next, left_none}
use Rattle.hanoi.specs.PartsLaws.{label_first, literals_next, literals_past}
use Rattle.hanoi.proofs.append_label.Goals as goal

pub loop-i-init : goal.loop-i-init
loop-i-init c = left_first _ _ (label_first c.args.o) c.append_literal.ensures

pub loop-i-preserved : goal.loop-i-preserved
loop-i-preserved c = let l = c.loop-i in left_next l.invariant _ _ (literals_next c.args.o l.i c.loop-i-test.true) c.append_literal-in-loop-i.ensures

pub returns : goal.returns
returns c = left_none c.loop-i.invariant (literals_past c.args.o c.loop-i.i (omega arith))
