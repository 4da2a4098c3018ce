use Rattle.rows.specs.WriteLaws.{Writing}
use Rattle.rows.proofs.write_row.Given as goal

abbrev pub invariant-loop-left : goal.invariant-loop-left
invariant-loop-left l = Writing l.row l.v l.initial.part l.left l.part

abbrev pub decreases-loop-left : goal.decreases-loop-left
decreases-loop-left l = l.left
