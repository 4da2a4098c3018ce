-- At the loop's head all earlier sections are the turn's, and have their ranks over the family.
use mathlib.Core.Path.{◌≡◌, refl, ◌∙◌}
use Prim.Native.Nat.{◌+◌, ◌-◌, ◌*◌, ◌≤◌}
use native.Mathlib.Omega.{arith}
use Rattle.machine.specs.Machines.{sets_a, pairs}
use Rattle.machine.specs.Table.{table_room}
use Rattle.machine.specs.WellFormedLaws.{well_pair, pairs_small, section_fits}
use Rattle.solver.specs.FamilyRowsLaws.{flat_none, turn_more, turn_all}
use Rattle.solver.specs.SweepLaws.{ranked_start, ranked_more, ranked_done}
use Rattle.solver.proofs.Game.turn.Goals as goal
use Rattle.solver.proofs.Game.turn.Goals.{In-loop-j, Start}

-- the section lies within the table
fits : (c : In-loop-j) →
    let P = pairs c.args.self.now.pair in
    c.loop-j.j * P + P ≤ table_room
fits c = section_fits c.args.self.now.pair (well_pair c.args.self.now.pair c.args.self.now.prepared.well) c.loop-j.j c.loop-j-test.true

pub overflow_mul-pairs : goal.overflow_mul-pairs
overflow_mul-pairs c = omega (arith, pairs_small c.args.self.now.pair (well_pair c.args.self.now.pair c.args.self.now.prepared.well))

pub loop-j-init : goal.loop-j-init
loop-j-init c = ((omega arith, ranked_start c.args.self.now.pair (well_pair c.args.self.now.pair c.args.self.now.prepared.well)), flat_none _)

pub overflow_mul-from : goal.overflow_mul-from
overflow_mul-from c = omega (arith, fits (goal.at.overflow_mul-from c).In-loop-j)

pub overflow_add-to : goal.overflow_add-to
overflow_add-to c = omega (arith, fits (goal.at.overflow_add-to c).In-loop-j)

pub offset_bounds-table-from : goal.offset_bounds-table-from
offset_bounds-table-from c = omega (arith, fits (goal.at.offset_bounds-table-from c).In-loop-j)

pub slice_bounds-turn_section-end : goal.slice_bounds-turn_section-end
slice_bounds-turn_section-end c = omega (arith, fits (goal.at.slice_bounds-turn_section-end c).In-loop-j, c.loop-j.invariant.0.1.long, c.requires)

pub loop-j-preserved : goal.loop-j-preserved
loop-j-preserved c =
    let x = c.args in
    let w = well_pair c.args.self.now.pair c.args.self.now.prepared.well in
    let P = pairs x.self.now.pair in
    let a = c.loop-j.j * P in
    let e : a + P - a ≡ P = omega arith in
    let made = c.turn_section.ensures in (
      (omega (arith, c.loop-j-test.true), ranked_more x.self.now.pair w c.requires c.loop-j-test.true refl e made.1 c.loop-j.invariant.0.1),
      made.0 ∙ turn_more x.self.now.pair w x.family.now c.loop-j.j c.loop-j-test.true c.loop-j.invariant.1,
    )

pub returns : goal.returns
returns c =
    let e : c.loop-j.j ≡ sets_a c.args.self.now.pair = omega (arith, c.loop-j.invariant.0.0, c.loop-j-test.false) in
    (c.loop-j.invariant.1 ∙ turn_all c.args.self.now.pair (well_pair c.args.self.now.pair c.args.self.now.prepared.well) c.args.family.now e, ranked_done c.args.self.now.pair (well_pair c.args.self.now.pair c.args.self.now.prepared.well) e c.requires c.loop-j.invariant.0.1)
