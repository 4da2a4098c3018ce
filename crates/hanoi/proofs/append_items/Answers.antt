-- The first number, and then a blank and a number for each state that is left.
use mathlib.Core.Path.{refl, ap, ◌∙◌}
use native.Mathlib.Omega.{arith}
use mir.Val.{Fits}
use mir.Syntax.{w64}
use borrow.Author.Rules.{rules}
use Rattle.mask.specs.BitsLaws.{rest_lt}
use Rattle.text.specs.AppendLaws.{left_first, left_next, left_none, put_none}
use Rattle.hanoi.specs.Parts.{items, spaced}
use Rattle.hanoi.specs.PartsLaws.{items_none, items_next, spaced_none, spaced_next}
use Rattle.hanoi.proofs.append_items.Goals as goal

pub returns-then-m-eq0 : goal.returns-then-m-eq0
returns-then-m-eq0 c = put_none 20000 c.args.text.now.items _ (omega (arith, c.len.ensures.fits, c.len.ensures.value)) (ap items c.if-m-eq0.true ∙ items_none)

pub loop-later-init : goal.loop-later-init
loop-later-init c =
    let f : Fits w64 c.args.m = search rules in
    (c.rest-later.type_inv, left_first _ _ (items_next c.args.m c.if-m-eq0.false f.fits c.lowest.ensures c.rest-later.ensures) c.append_number.ensures)

pub loop-later-smaller : goal.loop-later-smaller
loop-later-smaller c = omega (arith, c.rest-later-in-loop-later.ensures, rest_lt c.loop-later.later (omega arith))

pub loop-later-preserved : goal.loop-later-preserved
loop-later-preserved c =
    let l = c.loop-later in
    let next = spaced_next l.later c.loop-later-test.true l.invariant.0 c.lowest-in-loop-later.ensures c.rest-later-in-loop-later.ensures in
    (c.rest-later-in-loop-later.type_inv, left_next (left_next l.invariant.1 _ _ next c.append_byte.ensures) _ _ refl c.append_number-in-loop-later.ensures)

pub returns : goal.returns
returns c = left_none c.loop-later.invariant.1 (ap spaced (omega (arith, c.loop-later-test.false)) ∙ spaced_none)
