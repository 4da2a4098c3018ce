use mathlib.Core.Path.{◌≡◌}
use Prim.Native.Nat.{◌-◌, ◌≤◌}
use Rattle.mask.specs.Tables.{table}
use Rattle.machine.specs.Machines.{sets_a}
use Rattle.machine.specs.Game.{goals, levels}
use Rattle.solver.specs.Families.{flat_of, family_in}
use Rattle.solver.specs.Sweeps.{FamilyRanked}
use Rattle.solver.proofs.Game.turn.Given as goal

abbrev pub invariant-loop-j : goal.invariant-loop-j
invariant-loop-j l = ((l.j ≤ sets_a l.fn.self.pair) × FamilyRanked l.fn.self.pair (family_in l.fn.self.pair l.family) l.initial.table l.j l.table) × (l.out ≡ flat_of (table l.j (λ i. levels l.fn.self.pair (goals l.fn.self.pair (family_in l.fn.self.pair l.family) i))))

abbrev pub decreases-loop-j : goal.decreases-loop-j
decreases-loop-j l = l.n - l.j
