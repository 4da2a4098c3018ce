use mathlib.Core.Path.{◌≡◌}
use Prim.Native.Nat.{◌-◌, ◌≤◌}
use Rattle.machine.specs.Machines.{pairs}
use Rattle.rows.specs.Rows.{pairs_in}
use Rattle.solver.specs.Ranking.{LevelReached}
use Rattle.solver.proofs.Game.levels.Given as goal

abbrev pub invariant-loop-l : goal.invariant-loop-l
invariant-loop-l l = ((l.l-end ≡ pairs l.fn.self.pair) × (l.l ≤ l.l-end)) × LevelReached l.fn.self.pair (pairs_in l.fn.self.pair l.goals) l.initial.part l.l l.y l.part

abbrev pub decreases-loop-l : goal.decreases-loop-l
decreases-loop-l l = l.l-end - l.l
