use Prim.Native.Nat.{◌≤◌, ◌-◌}
use Rattle.turnline.specs.CountLaws.{Counting}
use Rattle.turnline.proofs.section_count.Given as goal

abbrev pub invariant-loop-c : goal.invariant-loop-c
invariant-loop-c l = (l.c ≤ 64) × Counting l.matched l.family l.j l.n l.c

abbrev pub decreases-loop-c : goal.decreases-loop-c
decreases-loop-c l = 64 - l.c
