use mathlib.Core.Path.{◌≡◌}
use Prim.Native.Nat.{◌-◌, ◌≤◌}
use lib.ListN.{length}
use Rattle.rows.specs.Entries.{row_count}
use Rattle.rows.specs.WriteLaws.{Written}
use Rattle.rows.proofs.write_entry.Given as goal

abbrev pub invariant-loop-c : goal.invariant-loop-c
invariant-loop-c l = (l.c ≤ l.end) × (l.end ≡ row_count l.nc l.na (length l.initial.part)) × Written l.na l.x l.y l.v l.initial.part l.c l.part

abbrev pub decreases-loop-c : goal.decreases-loop-c
decreases-loop-c l = l.end - l.c
