-- The first set's condition, and then those of the sets that are left.
use mathlib.Core.Path.{refl}
use native.Mathlib.Omega.{arith}
use Rattle.text.specs.AppendLaws.{left_first, left_next, left_none}
use Rattle.hanoi.specs.PartsLaws.{acceptance_first, conditions_next, conditions_past}
use Rattle.hanoi.proofs.append_acceptance.Goals as goal

pub loop-k-init : goal.loop-k-init
loop-k-init c = left_first _ _ (acceptance_first c.args.n c.requires) c.append.ensures

pub loop-k-preserved : goal.loop-k-preserved
loop-k-preserved c =
    let l = c.loop-k in
    left_next (left_next l.invariant _ _ (conditions_next l.k c.args.n c.loop-k-test.true) c.append_numbered.ensures) _ _ refl c.append_byte.ensures

pub returns : goal.returns
returns c = left_none c.loop-k.invariant (conditions_past c.loop-k.k c.args.n (omega arith))
