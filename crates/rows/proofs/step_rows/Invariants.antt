use mathlib.Core.Path.{◌≡◌}
use Prim.Native.Nat.{◌-◌, ◌≤◌, min}
use lib.ListN.{get_or, replicate}
use Rattle.mask.specs.Tables.{front}
use Rattle.rows.specs.Rows.{meet_of}
use Rattle.rows.proofs.step_rows.Given as goal

abbrev pub invariant-loop-c : goal.invariant-loop-c
invariant-loop-c l = (l.c ≤ l.c-end) × (l.c-end ≡ min l.nc 64) × (l.out ≡ front l.c (λ k. meet_of (get_or l.moves k 0) l.rows) (replicate 64 0))

abbrev pub decreases-loop-c : goal.decreases-loop-c
decreases-loop-c l = l.c-end - l.c
