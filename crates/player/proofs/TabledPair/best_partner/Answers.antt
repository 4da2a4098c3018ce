-- The part of the table that is handed over is the row of section j beside d, in which the partner is the rule's.
use mathlib.Core.Path.{◌≡◌, refl, ◌∙◌}
use Prim.Native.Nat.{◌+◌, ◌≤◌}
use native.Mathlib.Omega.{arith}
use Rattle.machine.specs.Machines.{n_c, n_a}
use Rattle.machine.specs.Step.{present_of}
use Rattle.machine.specs.Table.{table_room, entry_index}
use Rattle.player.specs.RowLaws.{index_is, row_end, row_partner}
use Rattle.player.proofs.TabledPair.best_partner.Goals as goal
use Rattle.player.proofs.TabledPair.best_partner.Goals.{After-entry_index-from}

-- the row of section j beside d
from : (c : After-entry_index-from) → let x = c.args in c.entry_index-from.result ≡ entry_index (n_c x.self.now.pair.now) (n_a x.self.now.pair.now) x.j x.d 0
from c =
    let x = c.args in
    let r = c.requires in
    index_is x.self.now.pair.now x.self.now.is_tabled.well _ x.j x.d r.j_bound.0 r.j_bound.1 0 c.entry_index-from.ensures (omega arith)

-- lies within the table
row_low : (c : After-entry_index-from) → c.entry_index-from.result + n_a c.args.self.now.pair.now ≤ table_room
row_low c =
    let x = c.args in
    let r = c.requires in
    row_end x.self.now.pair.now x.self.now.is_tabled.well _ x.j x.d r.j_bound.0 r.j_bound.1 (from c)

pub overflow_add-to : goal.overflow_add-to
overflow_add-to c = omega (arith, row_low (goal.at.overflow_add-to c).After-entry_index-from)

pub offset_bounds-table-from : goal.offset_bounds-table-from
offset_bounds-table-from c = omega (arith, row_low (goal.at.offset_bounds-table-from c).After-entry_index-from)

pub slice_bounds-partner_within-end : goal.slice_bounds-partner_within-end
slice_bounds-partner_within-end c = omega (arith, row_low (goal.at.slice_bounds-partner_within-end c).After-entry_index-from, c.args.self.now.is_tabled.long)

pub returns : goal.returns
returns c =
    let x = c.args in
    let r = c.requires in
    let e : After-entry_index-from = (goal.at.returns c).After-entry_index-from in
    c.partner_within.ensures ∙ rw x.self.now.is_tabled.masks (row_partner x.self.now.pair.now x.self.now.table.now x.self.now.is_tabled.well (λ i. omega (arith, x.self.now.is_tabled.entries i)) x.j x.d
    c.entry_index-from.result (c.entry_index-from.result + n_a x.self.now.pair.now) r.j_bound.1 (from e) refl (omega (arith, row_low e, x.self.now.is_tabled.long)) (present_of x.present) x.moves r.appended)
