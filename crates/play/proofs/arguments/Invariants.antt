-- The place stays within the text.
use lib.ListN.{length}
use Prim.Native.Nat.{◌≤◌}
use Rattle.play.proofs.arguments.Given as goal

abbrev pub invariant-loop-i : goal.invariant-loop-i
invariant-loop-i g l = l.at ≤ length l.text
