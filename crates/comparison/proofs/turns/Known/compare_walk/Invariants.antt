use Rattle.std.proofs.Common.{◌≡◌, ◌-◌, ◌≤◌}
use Rattle.comparison.specs.Turns.{walked}
use Rattle.comparison.proofs.turns.Known.compare_walk.Given as goal

abbrev pub invariant-loop : goal.invariant-loop
invariant-loop l = (l.counter ≤ l.end) × (walked l.self l.solved (l.end - l.counter) l.family l.sum ≡ walked l.self l.solved l.end l.initial.family l.initial.sum)
