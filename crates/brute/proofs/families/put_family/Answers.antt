-- The first entries are those of the family, and the others are as they were.
use Rattle.std.proofs.Common.{arith, rules, sym, tests, ◌∙◌}
use Rattle.std.specs.Prelude.{◌≡◌}
use Rattle.machine.specs.Refusals.{valid}
use Rattle.machine.specs.WellFormed.{pair_validity}
use Rattle.machine.specs.WellFormedLaws.{valid_is_well, WellPair, entries_small, pairs_small, well_valid}
use Rattle.std.specs.Prelude.{◌≤◌, length}
use Rattle.std.proofs.lemmas.List.{length-take-le}
use Rattle.machine.specs.Table.{entries}
use Rattle.brute.specs.Families.{family_entry}
use Rattle.brute.proofs.EachLaws.{each_front}
use Rattle.brute.specs.MachineLaws.{none_refused, some_refused}
use Rattle.brute.specs.FamiliesLaws.{family_ill, family_short, family_well}
use Rattle.brute.proofs.families.put_family.Goals as goal
use Rattle.brute.proofs.families.put_family.Goals.{Else-is_err}
use Rattle.brute.proofs.families.put_family.Goals.{then-table-lt-TABLE_ROOM-via-else-table-lt-TABLE_ROOM+then-is_err, then-table-lt-TABLE_ROOM-via-then-table-lt-TABLE_ROOM}

formed : (c : Else-is_err) → pair_validity c.args.p ≡ valid
formed c = sym c.validity.ensures ∙ none_refused _ (sym c.is_err.ensures.value ∙ c.if-is_err.false)

well : (c : Else-is_err) → WellPair c.args.p
well c = well_valid _ (formed c)

room : (c : Else-is_err) → entries c.args.p ≤ length c.args.table.now
room c = omega (arith, entries_small _ (well c), c.if-table-lt-TABLE_ROOM.false)

pub returns-then-table-lt-TABLE_ROOM : goal.returns-then-table-lt-TABLE_ROOM
returns-then-table-lt-TABLE_ROOM c =
    let x = c.args in
    elim c.then-table-lt-TABLE_ROOM.branch [
      | then-table-lt-TABLE_ROOM-via-then-table-lt-TABLE_ROOM w ↦ family_short x.p x.family.now x.table.now w.if-table-lt-TABLE_ROOM.true
      | then-table-lt-TABLE_ROOM-via-else-table-lt-TABLE_ROOM+then-is_err w ↦
          let r = some_refused _ (sym w.is_err.ensures.value ∙ w.if-is_err.true) in
          family_ill x.p x.family.now x.table.now w.if-table-lt-TABLE_ROOM.false r.0 (sym w.validity.ensures ∙ r.1)
    ]

pub overflow_mul-entries : goal.overflow_mul-entries
overflow_mul-entries c = omega (arith, pairs_small _ (well c))

pub overflow_mul-entries-2 : goal.overflow_mul-entries-2
overflow_mul-entries-2 c = omega (arith, entries_small _ (well c))

pub slice_bounds-put_each-end : goal.slice_bounds-put_each-end
slice_bounds-put_each-end c = room (goal.at.slice_bounds-put_each-end c).Else-is_err

pub slice_bounds-put_each-end-2 : goal.slice_bounds-put_each-end-2
slice_bounds-put_each-end-2 c = sym (length-take-le _ _ (room (goal.at.slice_bounds-put_each-end-2 c).Else-is_err))

pub invariant_of-formed : goal.invariant_of-formed
invariant_of-formed c = record { well = valid_is_well _ (formed (goal.at.invariant_of-formed c).Else-is_err) }

pub returns : goal.returns
returns c =
    let x = c.args in
    let at = (goal.at.returns c).Else-is_err in
    family_well x.p x.family.now x.table.now c.if-table-lt-TABLE_ROOM.false (formed at)
    (each_front (family_entry x.p x.family.now) x.table.now (entries x.p) (room at) c.put_each.ensures (search (rules, tests)))
