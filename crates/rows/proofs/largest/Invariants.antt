use Prim.Native.Nat.{◌+◌, ◌*◌, ◌^◌, ◌<◌}
use lib.ListN.{get_or}
use Rattle.mask.specs.Bounded.{sum}
use Rattle.rows.specs.Largest.{Known}
use Rattle.rows.specs.LargestLaws.{Shrinking}
use Rattle.rows.proofs.largest.Given as goal

abbrev pub invariant-loop-due : goal.invariant-loop-due
invariant-loop-due l = (l.due < 2 ^ 64) × (Known l.nc l.moves l.dependents l.predecessors l.start l.first → Shrinking l.nc l.moves l.predecessors l.base l.members l.start l.x l.reached l.due)

abbrev pub decreases-loop-due : goal.decreases-loop-due
decreases-loop-due l = sum 64 (λ i. get_or l.x i 0) * 2 ^ 64 + l.due
