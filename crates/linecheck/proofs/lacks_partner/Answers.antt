-- The row of section 1 beside c lies within the table, and the single step finds one in it exactly if the definition does.
use mathlib.Core.Bool as B
use mathlib.Core.Path.{refl, sym, ap, ◌∙◌}
use Prim.Native.Nat.{◌+◌, ◌≤◌}
use native.Mathlib.Omega.{arith}
use lib.ListN.{length}
use Rattle.mask.specs.LogicLaws.{and_false_l, and_true_l, not_is}
use Rattle.machine.specs.Machines.{starts, n_a}
use Rattle.machine.specs.WellFormedLaws.{well_pair}
use Rattle.linecheck.specs.BoundsLaws.{place_at_lem, row_fits}
use Rattle.linecheck.specs.StartsLaws.{start_found}
use Rattle.linecheck.proofs.lacks_partner.Goals as goal
use Rattle.linecheck.proofs.lacks_partner.Goals.{After-entry_index-from}

-- the row lies within the table
room : (c : After-entry_index-from) → c.entry_index-from.result + n_a c.args.formed.pair.now ≤ length c.args.table.now
room c =
    let x = c.args in
    row_fits x.formed.pair.now (well_pair x.formed.pair.now x.formed.well) _ 0 x.c _ c.entry_index-from.ensures (omega arith) c.requires.1 c.requires.0

pub overflow_add-from : goal.overflow_add-from
overflow_add-from c = omega (arith, room (goal.at.overflow_add-from c).After-entry_index-from)

pub offset_bounds-table-from : goal.offset_bounds-table-from
offset_bounds-table-from c = omega (arith, room (goal.at.offset_bounds-table-from c).After-entry_index-from)

pub slice_bounds-has_partner-end : goal.slice_bounds-has_partner-end
slice_bounds-has_partner-end c = room (goal.at.slice_bounds-has_partner-end c).After-entry_index-from

pub returns-then-not-has : goal.returns-then-not-has
unfolding starts
returns-then-not-has c = sym (and_false_l _ (sym c.has.ensures ∙ c.if-not-has.true))

pub returns : goal.returns
unfolding starts
returns c =
    let x = c.args in
    let w = well_pair x.formed.pair.now x.formed.well in
    let from = c.entry_index-from.result in
    let found =
    c.has_partner.ensures 0
    ∙ start_found x.formed.pair.now x.table.now w (λ i. omega (arith, c.type_inv.table i)) x.c from (from + n_a x.formed.pair.now)
    (place_at_lem x.formed.pair.now w from 0 x.c 0 c.entry_index-from.ensures (omega arith) c.requires.1 (omega arith)) refl
    (room (goal.at.returns c).After-entry_index-from) 0 _ in
    sym (and_true_l _ (sym c.has.ensures ∙ c.if-not-has.false) ∙ not_is _ ∙ ap B.not (sym found))
