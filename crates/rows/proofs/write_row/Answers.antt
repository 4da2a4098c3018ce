-- At the loop's head all states of the row but those left have the entry, where there is one; each turn takes the lowest.
use native.Mathlib.Omega.{arith}
use Rattle.mask.specs.BitsLaws.{rest_lt}
use Rattle.rows.specs.WriteLaws.{writing_start, writing_skip, writing_turn, writing_done}
use Rattle.rows.proofs.write_row.Goals as goal
use Rattle.rows.proofs.write_row.Goals.{else-a-part, then-a-part}

pub loop-left-init : goal.loop-left-init
loop-left-init c = writing_start (omega arith)

pub loop-left-smaller : goal.loop-left-smaller
loop-left-smaller c = omega (arith, c.rest-left.ensures, rest_lt c.loop-left.left (omega (arith, c.loop-left-test.true)))

pub loop-left-preserved : goal.loop-left-preserved
loop-left-preserved c =
    let e = c.lowest-a.ensures in
    let z = c.loop-left-test.true in
    rw c.rest-left.ensures (elim c.if-a-part.branch [
      | then-a-part w ↦ rw w.part-is (writing_turn e z c.loop-left.invariant (omega (arith, w.if-a-part.true)))
      | else-a-part w ↦ rw w.part-is (writing_skip e z c.loop-left.invariant (omega (arith, w.if-a-part.false, c.loop-left.invariant.long)))
    ])

pub returns : goal.returns
returns c = writing_done c.loop-left-test.false c.loop-left.invariant
