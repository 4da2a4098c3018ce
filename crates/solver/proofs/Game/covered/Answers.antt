-- The section's part of the table is read.
use Rattle.std.proofs.Common.{◌≡◌, ap, ◌∙◌, ℕ, ◌+◌, ◌-◌, ◌*◌, ◌≤◌, arith, length, take, drop}
use Rattle.machine.specs.Machines.{n_c, n_a, pairs}
use Rattle.machine.specs.Table.{table_room}
use Rattle.machine.specs.WellFormedLaws.{well_pair, pairs_small, section_fits}
use Rattle.rows.specs.Entries.{upto_rows}
use Rattle.rows.specs.WriteLaws.{upto_is, cut_long}
use Rattle.solver.specs.Sweeps.{part_of}
use Rattle.solver.proofs.Game.covered.Goals as goal
use Rattle.solver.proofs.Game.covered.Goals.{Start}

-- the section lies within the table
fits : (c : Start) → let p = c.args.self.now.pair in (c.args.j * pairs p + pairs p ≤ length c.args.table.now) × (c.args.j * pairs p + pairs p ≤ table_room)
fits c =
    let p = c.args.self.now.pair in
    let f = section_fits p (well_pair p c.args.self.now.prepared.well) c.args.j c.requires.0 in
    (omega (arith, f, c.requires.1), f)

pub overflow_mul-pairs : goal.overflow_mul-pairs
overflow_mul-pairs c = omega (arith, pairs_small c.args.self.now.pair (well_pair c.args.self.now.pair c.args.self.now.prepared.well))

pub overflow_mul-from : goal.overflow_mul-from
overflow_mul-from c = omega (arith, fits (goal.at.overflow_mul-from c).Start)

pub overflow_add-to : goal.overflow_add-to
overflow_add-to c = omega (arith, fits (goal.at.overflow_add-to c).Start)

pub offset_bounds-table-from : goal.offset_bounds-table-from
offset_bounds-table-from c = omega (arith, fits (goal.at.offset_bounds-table-from c).Start)

pub slice_bounds-upto-end : goal.slice_bounds-upto-end
slice_bounds-upto-end c = omega (arith, fits (goal.at.slice_bounds-upto-end c).Start)

pub returns : goal.returns
unfolding part_of
returns c =
    let x = c.args in
    let p = x.self.now.pair in
    let w = well_pair p x.self.now.prepared.well in
    let P = pairs p in
    let a = x.j * P in
    let e : a + P - a ≡ P = omega arith in
    let part = take (a + P - a) (drop a x.table.now) in
    c.upto.ensures
    ∙ upto_is (n_c p) (n_a p) part 65534 w.concrete.states_high w.abstraction.states_high (cut_long (a + P - a) a x.table.now (omega (arith, fits (goal.at.returns c).Start)) ∙ e)
    ∙ ap (λ (k : ℕ). upto_rows (n_c p) (n_a p) (take k (drop a x.table.now)) 65534) e
