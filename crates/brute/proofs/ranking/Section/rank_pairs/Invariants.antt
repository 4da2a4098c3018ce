use mathlib.Core.Path.{◌≡◌}
use Prim.Native.Nat.{◌-◌, ◌≤◌}
use lib.ListN.{length}
use Rattle.brute.specs.Ranking.{ranked}
use Rattle.brute.proofs.ranking.Section.rank_pairs.Given as goal

abbrev pub invariant-loop-i : goal.invariant-loop-i
invariant-loop-i l = (l.i ≤ l.i-end) × (length l.ranks ≡ length l.initial.ranks) × (l.ranks ≡ ranked l.self.lifted.pair.now l.self.lifted.table.now l.self.j l.i l.initial.ranks)

abbrev pub decreases-loop-i : goal.decreases-loop-i
decreases-loop-i l = l.i-end - l.i
