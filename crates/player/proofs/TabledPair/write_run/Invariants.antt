use Prim.Native.Nat.{◌-◌}
use Rattle.player.specs.Given.{lent}
use Rattle.machine.specs.Player.{run_room}
use Rattle.player.specs.Places.{Playing}
use Rattle.player.proofs.TabledPair.write_run.Given as goal

abbrev pub invariant-loop-place : goal.invariant-loop-place
invariant-loop-place l = Playing l.self.pair.now l.self.table.now (lent l.lasso) l.initial.run l.run l.marks l.place l.t

abbrev pub decreases-loop-place : goal.decreases-loop-place
decreases-loop-place l = run_room - l.t
