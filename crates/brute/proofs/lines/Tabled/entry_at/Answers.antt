-- The place of the entry is a small number, and past the table's end both sides are 0.
use Prim.Native.Nat.{◌*◌, ◌+◌, ◌≤◌}
use native.Mathlib.Omega.{arith}
use Rattle.machine.specs.Table.{entry, entry_index}
use Rattle.brute.specs.TargetLaws.{place_small}
use Rattle.brute.proofs.WellLaws.{well_of}
use Rattle.brute.proofs.lines.Tabled.entry_at.Goals as goal
use Rattle.brute.proofs.lines.Tabled.entry_at.Goals.{Start}

room : (c : Start) → (c.args.j * c.args.self.now.pair.now.concrete.states ≤ 384) × ((c.args.j * c.args.self.now.pair.now.concrete.states + c.args.c) * c.args.self.now.pair.now.abstraction.states ≤ 40896)
room c = let x = c.args in place_small x.self.now.pair.now (well_of x.self.now) x.j x.c (omega arith) (omega arith)

pub overflow_mul-j : goal.overflow_mul-j
overflow_mul-j c = omega (arith, room (goal.at.overflow_mul-j c).Start)

pub overflow_add-j : goal.overflow_add-j
overflow_add-j c = omega (arith, room (goal.at.overflow_add-j c).Start)

pub overflow_mul-j-2 : goal.overflow_mul-j-2
overflow_mul-j-2 c = omega (arith, room (goal.at.overflow_mul-j-2 c).Start)

pub overflow_add-j-2 : goal.overflow_add-j-2
overflow_add-j-2 c = omega (arith, room (goal.at.overflow_add-j-2 c).Start)

pub returns : goal.returns
unfolding entry entry_index
returns c = c.value_at.ensures
