use Prim.Native.Nat.{◌^◌, ◌<◌}
use Rattle.text.specs.AppendLaws.{Left}
use Rattle.hanoi.specs.Parts.{items, spaced}
use Rattle.hanoi.proofs.append_items.Given as goal

abbrev pub invariant-loop-later : goal.invariant-loop-later
invariant-loop-later l = (l.later < 2 ^ 64) × Left 20000 l.fn.text.items (items l.m) l.text.items (spaced l.later)

abbrev pub decreases-loop-later : goal.decreases-loop-later
decreases-loop-later l = l.later
