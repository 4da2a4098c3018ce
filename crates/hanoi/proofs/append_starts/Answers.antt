-- The invariant: the lines of the start states that are left are still to be put.
use mathlib.Core.Path.{refl, ap, ◌∙◌}
use native.Mathlib.Omega.{arith}
use mir.Val.{Fits}
use mir.Syntax.{w64}
use borrow.Author.Rules.{rules}
use Rattle.mask.specs.BitsLaws.{rest_lt}
use Rattle.text.specs.AppendLaws.{left_all, left_next, left_none}
use Rattle.hanoi.specs.Parts.{start_lines}
use Rattle.hanoi.specs.PartsLaws.{starts_none, starts_next}
use Rattle.hanoi.proofs.append_starts.Goals as goal

pub loop-left-init : goal.loop-left-init
loop-left-init c = let f : Fits w64 c.args.start = search rules in (f.fits, left_all _ (omega (arith, c.len.ensures.fits, c.len.ensures.value)))

pub loop-left-smaller : goal.loop-left-smaller
loop-left-smaller c = omega (arith, c.rest-left.ensures, rest_lt c.loop-left.left (omega arith))

pub loop-left-preserved : goal.loop-left-preserved
loop-left-preserved c =
    let l = c.loop-left in
    let line = starts_next l.left c.loop-left-test.true l.invariant.0 c.lowest.ensures c.rest-left.ensures in
    (c.rest-left.type_inv, left_next (left_next l.invariant.1 _ _ line c.append_numbered.ensures) _ _ refl c.append_byte.ensures)

pub returns : goal.returns
returns c = left_none c.loop-left.invariant.1 (ap start_lines (omega (arith, c.loop-left-test.false)) ∙ starts_none)
