use mathlib.Core.Path.{◌≡◌}
use Prim.Native.Nat.{◌-◌, ◌≤◌}
use lib.ListN.{length}
use Rattle.brute.specs.Lifting.{lifted}
use Rattle.brute.proofs.lifting.lift.Given as goal

abbrev pub invariant-loop : goal.invariant-loop
invariant-loop l = (l.counter ≤ l.end) × (length l.table ≡ length l.initial.table) × (lifted l.fn.p (l.end - l.counter) l.table ≡ lifted l.fn.p l.end l.initial.table)

abbrev pub decreases-loop : goal.decreases-loop
decreases-loop l = l.end - l.counter
