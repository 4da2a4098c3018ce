use Prim.Native.Nat.{◌^◌, ◌<◌}
use Rattle.text.specs.AppendLaws.{Left}
use Rattle.hanoi.specs.Parts.{start_lines}
use Rattle.hanoi.proofs.append_starts.Given as goal

abbrev pub invariant-loop-left : goal.invariant-loop-left
invariant-loop-left l = (l.left < 2 ^ 64) × Left 20000 l.fn.text.items (start_lines l.start) l.text.items (start_lines l.left)

abbrev pub decreases-loop-left : goal.decreases-loop-left
decreases-loop-left l = l.left
