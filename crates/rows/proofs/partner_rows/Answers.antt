-- At the loop's head all earlier rows are the definition's, and the others are 0.
use native.Mathlib.Omega.{arith}
use Rattle.mask.specs.FrontLaws.{front_none, front_turn}
use Rattle.rows.specs.Rows.{partner_rows}
use Rattle.rows.specs.RowsLaws.{front_rows}
use Rattle.rows.proofs.partner_rows.Goals as goal

pub loop-d-init : goal.loop-d-init
loop-d-init c = (omega arith, c.min-d-end.ensures, front_none _ _)

pub loop-d-preserved : goal.loop-d-preserved
loop-d-preserved c = let l = c.loop-d in (omega arith, l.invariant.1, front_turn _ _ l.invariant.2 (omega (arith, l.invariant.1)) c.partners.ensures)

pub returns : goal.returns
unfolding partner_rows
returns c = let l = c.loop-d in front_rows _ _ l.invariant.2 (omega (arith, l.invariant.1))
