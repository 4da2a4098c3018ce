use mathlib.Core.Path.{◌≡◌}
use Prim.Native.Nat.{◌+◌, ◌*◌, ◌-◌, ◌≤◌}
use lib.Dec.{leb}
use lib.ListN.{length, get_or, replicate}
use Rattle.mask.specs.Tables.{mask_of, front}
use Rattle.rows.specs.Entries.{row_count}
use Rattle.rows.proofs.upto.Given as goal

abbrev pub invariant-loop-c : goal.invariant-loop-c
invariant-loop-c l = (l.c ≤ l.end) × (l.end ≡ row_count l.nc l.na (length l.part)) × (l.out ≡ front l.c (λ k. mask_of l.na (λ a. leb (get_or l.part (k * l.na + a) 0) l.bound)) (replicate 64 0))

abbrev pub decreases-loop-c : goal.decreases-loop-c
decreases-loop-c l = l.end - l.c
