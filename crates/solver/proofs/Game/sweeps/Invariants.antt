use Prim.Native.Nat.{◌+◌, ◌*◌, ◌^◌}
use Rattle.machine.specs.Table.{covered_count}
use Rattle.solver.specs.Sweeps.{Sweeping}
use Rattle.solver.proofs.Game.sweeps.Given as goal

abbrev pub invariant-loop-due : goal.invariant-loop-due
invariant-loop-due l = Sweeping l.fn.self.pair l.initial.table l.due l.table

abbrev pub decreases-loop-due : goal.decreases-loop-due
decreases-loop-due l = covered_count l.fn.self.pair l.table * 2 ^ 64 + l.due
