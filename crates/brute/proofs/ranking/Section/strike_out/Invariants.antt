use mathlib.Core.Path.{◌≡◌}
use Prim.Native.Nat.{◌-◌, ◌≤◌}
use lib.ListN.{length}
use Rattle.brute.specs.Ranking.{struck}
use Rattle.brute.proofs.ranking.Section.strike_out.Given as goal

abbrev pub invariant-loop : goal.invariant-loop
invariant-loop l = (l.counter ≤ l.pairs) × (length l.set ≡ length l.initial.set) × (struck l.self.lifted.pair.now l.self.lifted.table.now l.self.j l.ranks l.i (l.pairs - l.counter) l.set ≡ struck l.self.lifted.pair.now l.self.lifted.table.now l.self.j l.ranks l.i l.pairs l.initial.set)

abbrev pub decreases-loop : goal.decreases-loop
decreases-loop l = l.pairs - l.counter
