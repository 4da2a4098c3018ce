-- At the loop's head all earlier rows are the definition's, and the others are 0.
use native.Mathlib.Omega.{arith}
use Rattle.mask.specs.FrontLaws.{front_none, front_turn}
use Rattle.rows.specs.Rows.{step_rows}
use Rattle.rows.specs.RowsLaws.{front_rows}
use Rattle.rows.proofs.step_rows.Goals as goal

pub loop-c-init : goal.loop-c-init
loop-c-init c = (omega arith, c.min-c-end.ensures, front_none _ _)

pub loop-c-preserved : goal.loop-c-preserved
loop-c-preserved c = let l = c.loop-c in (omega arith, l.invariant.1, front_turn _ _ l.invariant.2 (omega (arith, l.invariant.1)) c.meet.ensures)

pub returns : goal.returns
unfolding step_rows
returns c = let l = c.loop-c in rw (← c.partner_rows-rows.ensures) (front_rows _ _ l.invariant.2 (omega (arith, l.invariant.1)))
