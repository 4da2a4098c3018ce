use Prim.Native.Nat.{◌-◌, ◌≤◌}
use Rattle.solver.specs.Sweeps.{Begun}
use Rattle.solver.proofs.Game.first_table.Given as goal

abbrev pub invariant-loop-j : goal.invariant-loop-j
invariant-loop-j l = (l.j ≤ l.n) × Begun l.pairs l.fn.self.pair.abstraction.states l.fn.self.matched l.initial.table l.j l.table

abbrev pub decreases-loop-j : goal.decreases-loop-j
decreases-loop-j l = l.n - l.j
