use Rattle.std.specs.Prelude.{◌≡◌, ◌≤◌, ◌-◌, take}
use Rattle.turnline.specs.LinesLaws.{told}
use Rattle.turnline.proofs.turn_line.Given as goal

abbrev pub invariant-loop-j : goal.invariant-loop-j
invariant-loop-j l = (l.j ≤ l.n) × ((l.n ≤ 7) × (l.line.items ≡ take 128 (told l.matched l.family l.t l.j)))

abbrev pub decreases-loop-j : goal.decreases-loop-j
decreases-loop-j l = l.n - l.j
