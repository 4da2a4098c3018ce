use mathlib.Core.Path.{◌≡◌}
use Prim.Native.Nat.{◌-◌, ◌≤◌, min}
use lib.ListN.{get_or, replicate}
use Rattle.mask.specs.Tables.{front}
use Rattle.rows.specs.Rows.{partners_of}
use Rattle.rows.proofs.partner_rows.Given as goal

abbrev pub invariant-loop-d : goal.invariant-loop-d
invariant-loop-d l = (l.d ≤ l.d-end) × (l.d-end ≡ min l.nc 64) × (l.out ≡ front l.d (λ k. partners_of l.predecessors (get_or l.set k 0)) (replicate 64 0))

abbrev pub decreases-loop-d : goal.decreases-loop-d
decreases-loop-d l = l.d-end - l.d
