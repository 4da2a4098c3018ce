-- At the loop's head all earlier sections have their first entries.
use mathlib.Core.Path.{◌≡◌, refl}
use Prim.Native.Nat.{◌+◌, ◌-◌, ◌*◌, ◌≤◌}
use native.Mathlib.Omega.{arith}
use Rattle.machine.specs.Machines.{pairs}
use Rattle.machine.specs.Table.{table_room}
use Rattle.machine.specs.WellFormedLaws.{well_pair, pairs_small, section_fits}
use Rattle.solver.specs.SweepLaws.{begun_turn}
use Rattle.solver.proofs.Game.first_table.Goals as goal
use Rattle.solver.proofs.Game.first_table.Goals.{In-loop-j, Start}

-- the section lies within the table
fits : (c : In-loop-j) →
    let P = pairs c.args.self.now.pair in
    c.loop-j.j * P + P ≤ table_room
fits c = section_fits c.args.self.now.pair (well_pair c.args.self.now.pair c.args.self.now.prepared.well) c.loop-j.j c.loop-j-test.true

pub overflow_mul-pairs : goal.overflow_mul-pairs
overflow_mul-pairs c = omega (arith, pairs_small c.args.self.now.pair (well_pair c.args.self.now.pair c.args.self.now.prepared.well))

pub overflow_mul-from : goal.overflow_mul-from
overflow_mul-from c = omega (arith, fits (goal.at.overflow_mul-from c).In-loop-j)

pub overflow_add-to : goal.overflow_add-to
overflow_add-to c = omega (arith, fits (goal.at.overflow_add-to c).In-loop-j)

pub offset_bounds-table-from : goal.offset_bounds-table-from
offset_bounds-table-from c = omega (arith, fits (goal.at.offset_bounds-table-from c).In-loop-j)

pub slice_bounds-first_entries-end : goal.slice_bounds-first_entries-end
slice_bounds-first_entries-end c = omega (arith, fits (goal.at.slice_bounds-first_entries-end c).In-loop-j, c.loop-j.invariant.1.long, c.requires)

pub loop-j-preserved : goal.loop-j-preserved
loop-j-preserved c =
    let P = pairs c.args.self.now.pair in
    let a = c.loop-j.j * P in
    let e : a + P - a ≡ P = omega arith in (
      omega (arith, c.loop-j-test.true),
      begun_turn (omega (arith, fits (goal.at.loop-j-preserved c).In-loop-j, c.requires)) refl e c.first_entries.ensures c.loop-j.invariant.1,
    )
