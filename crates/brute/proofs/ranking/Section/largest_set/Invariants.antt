use mathlib.Core.Path.{◌≡◌}
use Prim.Native.Nat.{min}
use Rattle.mask.specs.Bits.{full_mask}
use Rattle.machine.specs.Machines.{pairs}
use Rattle.brute.specs.Ranking.{largest}
use Rattle.brute.proofs.ranking.Section.largest_set.Given as goal

abbrev pub invariant-loop-x : goal.invariant-loop-x
invariant-loop-x l = largest l.self.lifted.pair.now l.self.lifted.table.now l.self.j l.ranks l.i l.x ≡ largest l.self.lifted.pair.now l.self.lifted.table.now l.self.j l.ranks l.i (full_mask (min (pairs l.self.lifted.pair.now) 64))

abbrev pub decreases-loop-x : goal.decreases-loop-x
decreases-loop-x l = l.x
