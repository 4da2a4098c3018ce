use Prim.Native.Nat.{◌-◌, ◌≤◌}
use Rattle.rows.specs.Rows.{pairs_in}
use Rattle.solver.specs.Ranking.{LevelMade}
use Rattle.solver.proofs.Game.level.Given as goal

abbrev pub invariant-loop-k : goal.invariant-loop-k
invariant-loop-k l =
    let p = l.fn.self.pair in
    (l.k ≤ l.m) × LevelMade p (pairs_in p l.goals) l.initial.part l.l l.k l.seen l.part

abbrev pub decreases-loop-k : goal.decreases-loop-k
decreases-loop-k l = l.m - l.k
