use Prim.Native.Nat.{◌*◌, ◌≤◌}
use mathlib.Core.Path.{◌≡◌}
use Rattle.codec.specs.BlockLaws.{weighed}
use Rattle.codec.proofs.check_of.Given as goal

abbrev pub invariant-loop-i : goal.invariant-loop-i
invariant-loop-i l = (l.total ≡ weighed l.front l.i) × (l.total ≤ 130050 * l.i)
