-- The goals are those that the table gives, by what it covers in the next section; the section's entries become the ranks over them.
use mathlib.Core.List.{List}
use mathlib.Core.Path.{◌≡◌, refl, sym, ap, ◌∙◌}
use Prim.Native.Nat.{ℕ, ◌+◌, ◌*◌, ◌-◌, ◌≤◌, ◌<◌}
use native.Mathlib.Omega.{arith}
use lib.ListN.{take, drop}
use Rattle.mask.specs.Logic.{not}
use Rattle.mask.specs.LogicLaws.{not_is}
use Rattle.machine.specs.declared.Pair.{Pair}
use Rattle.machine.specs.Machines.{n_c, n_a, sets_a, pairs}
use Rattle.machine.specs.StepLaws.{next_lt}
use Rattle.machine.specs.Table.{blank, table_room}
use Rattle.machine.specs.WellFormedLaws.{WellPair, well_pair, pairs_small, section_fits}
use Rattle.rows.specs.Rows.{rows_of, pairs_in}
use Rattle.rows.specs.Entries.{upto_rows}
use Rattle.solver.specs.Ranking.{Holds}
use Rattle.solver.specs.Sweeps.{part_of, goals_in}
use Rattle.solver.specs.SweepLaws.{cut_is, goals_rows, goals_held, renewed}
use Rattle.solver.proofs.Game.renew.Goals as goal
use Rattle.solver.proofs.Game.renew.Goals.{After-goals-g, Start}

-- a section's part lies within the table
fits : (p : Pair) → WellPair p → (j : ℕ) → j < sets_a p → (j < 7) × (j * pairs p + pairs p ≤ table_room)
fits p w j h = (omega (arith, h, w.abstraction.sets_high), section_fits p w j h)

pub covered-ahead-requires : goal.covered-ahead-requires
covered-ahead-requires c =
    let n = c.next_section-next in
    (rw n.ensures (next_lt (sets_a c.args.self.now.pair) c.args.j c.requires.section), c.requires.room)

pub covered-old-requires : goal.covered-old-requires
covered-old-requires c = (c.requires.section, c.requires.room)

pub goals-g-requires : goal.goals-g-requires
goals-g-requires c = c.requires.section

pub overflow_mul-pairs : goal.overflow_mul-pairs
overflow_mul-pairs c = omega (arith, pairs_small c.args.self.now.pair (well_pair c.args.self.now.pair c.args.self.now.prepared.well))

pub overflow_mul-from : goal.overflow_mul-from
overflow_mul-from c = omega (arith, fits c.args.self.now.pair (well_pair c.args.self.now.pair c.args.self.now.prepared.well) c.args.j c.requires.section)

pub overflow_add-to : goal.overflow_add-to
overflow_add-to c = omega (arith, fits c.args.self.now.pair (well_pair c.args.self.now.pair c.args.self.now.prepared.well) c.args.j c.requires.section)

pub offset_bounds-table-from : goal.offset_bounds-table-from
offset_bounds-table-from c = omega (arith, fits c.args.self.now.pair (well_pair c.args.self.now.pair c.args.self.now.prepared.well) c.args.j c.requires.section)

pub slice_bounds-section-end : goal.slice_bounds-section-end
slice_bounds-section-end c = omega (arith, fits c.args.self.now.pair (well_pair c.args.self.now.pair c.args.self.now.prepared.well) c.args.j c.requires.section, c.requires.room)

goals_are : (c : After-goals-g) → c.goals-g.result ≡ rows_of (goals_in c.args.self.now.pair c.args.table.now c.args.j)
goals_are c =
    goals_rows c.args.self.now.pair (well_pair c.args.self.now.pair c.args.self.now.prepared.well) c.requires c.args.self.now.prepared.matched_are c.args.self.now.prepared.predecessors_are c.next_section-next.ensures c.covered-ahead.ensures c.goals-g.ensures

held : (c : After-goals-g) →
    let x = c.args in
    let g = c.goals-g.result in
    (pairs_in x.self.now.pair g ≡ goals_in x.self.now.pair x.table.now x.j) × Holds x.self.now.pair g
held c = goals_held c.args.self.now.pair (well_pair c.args.self.now.pair c.args.self.now.prepared.well) c.requires (goals_are c)

part_is : (c : After-goals-g) →
    let x = c.args in
    let a = x.j * pairs x.self.now.pair in
    take (a + pairs x.self.now.pair - a) (drop a x.table.now) ≡ part_of x.self.now.pair x.table.now x.j
part_is c =
    let x = c.args in
    let a = x.j * pairs x.self.now.pair in
    cut_is x.self.now.pair (well_pair c.args.self.now.pair c.args.self.now.prepared.well) x.table.now x.j a (a + pairs x.self.now.pair - a) refl (omega arith)

pub section-y-requires : goal.section-y-requires
section-y-requires c =
    let x = c.args in
    let p = x.self.now.pair in
    let e = part_is (goal.at.section-y-requires c).After-goals-g in
    let g = held (goal.at.section-y-requires c).After-goals-g in
    (g.1, (rw (g.0, e) (c.requires.bounded x.j c.requires.section), c.covered-old.ensures ∙ ap (λ (l : List ℕ). upto_rows (n_c p) (n_a p) l (blank - 1)) (sym e)))

pub returns : goal.returns
returns c =
    let x = c.args in
    let p = x.self.now.pair in
    let y = c.section-y.ensures in
    let a = x.j * pairs p in
    let e : a + pairs p - a ≡ pairs p = omega arith in
    renewed p (well_pair c.args.self.now.pair c.args.self.now.prepared.well) c.requires refl e (rw (held (goal.at.returns c).After-goals-g).0 at y.1) (c.covered-old.ensures) (rw (held (goal.at.returns c).After-goals-g).0 at y.0) (sym (not_is _) ∙ ap not c.same_rows.ensures)
