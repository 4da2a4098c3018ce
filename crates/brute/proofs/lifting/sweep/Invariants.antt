use mathlib.Core.Path.{◌≡◌}
use Prim.Native.Nat.{◌-◌, ◌≤◌}
use lib.ListN.{length}
use Rattle.brute.specs.Lifting.{swept}
use Rattle.brute.proofs.lifting.sweep.Given as goal

abbrev pub invariant-loop-e : goal.invariant-loop-e
invariant-loop-e l = (l.e ≤ l.e-end) × (length l.table ≡ length l.initial.table) × (l.table ≡ swept l.p.pair.now l.e l.initial.table)

abbrev pub decreases-loop-e : goal.decreases-loop-e
decreases-loop-e l = l.e-end - l.e
