-- The invariant: what is lifted from here in the turns that are left is the answer.
use Rattle.std.proofs.Common.{arith, rules, sym, ◌∙◌}
use Rattle.std.specs.Prelude.{length, ◌*◌, ◌+◌, ◌-◌, ◌≡◌, ◌≤◌}
use Rattle.machine.specs.Refusals.{valid}
use Rattle.machine.specs.Machines.{pairs, sets_c}
use Rattle.machine.specs.WellFormed.{pair_validity}
use Rattle.machine.specs.WellFormedLaws.{WellPair, entries_small, pairs_small, ranks_small, valid_is_well, well_valid}
use Rattle.machine.specs.Table.{entries, table_room}
use Rattle.brute.specs.MachineLaws.{none_refused, ok_failed, ok_passed, some_refused}
use Rattle.brute.specs.Lifting.{lifted, lifted_table}
use Rattle.brute.specs.LiftingLaws.{lifted_done, lifted_ill, lifted_next, lifted_none, lifted_short, lifted_well, turns_small}
use Rattle.brute.proofs.lifting.lift.Goals as goal
use Rattle.brute.proofs.lifting.lift.Goals.{At-loop, Else-is_err}
use Rattle.brute.proofs.lifting.lift.Goals.{then-table-lt-TABLE_ROOM-via-else-table-lt-TABLE_ROOM+then-is_err, then-table-lt-TABLE_ROOM-via-then-table-lt-TABLE_ROOM}

formed : (c : Else-is_err) → pair_validity c.args.p ≡ valid
formed c = sym c.validity.ensures ∙ none_refused _ (sym c.is_err.ensures.value ∙ c.if-is_err.false)

well : (c : Else-is_err) → WellPair c.args.p
well c = well_valid _ (formed c)

pub returns-then-table-lt-TABLE_ROOM : goal.returns-then-table-lt-TABLE_ROOM
returns-then-table-lt-TABLE_ROOM c =
    let x = c.args in
    elim c.then-table-lt-TABLE_ROOM.branch [
      | then-table-lt-TABLE_ROOM-via-then-table-lt-TABLE_ROOM w ↦ lifted_short x.p x.table.now w.if-table-lt-TABLE_ROOM.true
      | then-table-lt-TABLE_ROOM-via-else-table-lt-TABLE_ROOM+then-is_err w ↦
          let r = some_refused _ (sym w.is_err.ensures.value ∙ w.if-is_err.true) in
          lifted_ill x.p x.table.now w.if-table-lt-TABLE_ROOM.false r.0 (sym w.validity.ensures ∙ r.1)
    ]

room : (c : Else-is_err) → table_room ≤ length c.args.table.now
room c = c.if-table-lt-TABLE_ROOM.false

answer : (c : At-loop) → let x = c.args in
    lifted x.p (entries x.p * (sets_c x.p * pairs x.p + 2) - c.loop.counter) c.loop.table ≡ c.loop.table
    → c.loop.table ≡ lifted_table x.p x.table.now
answer c e =
    let x = c.args in
    lifted_well x.p x.table.now c.if-table-lt-TABLE_ROOM.false (sym c.validity.ensures ∙ none_refused _ (sym c.is_err.ensures.value ∙ c.if-is_err.false)) c.put_zeros.ensures (sym e ∙ c.loop.invariant.2)

pub overflow_mul-pairs : goal.overflow_mul-pairs
overflow_mul-pairs c = omega (arith, pairs_small _ (well (goal.at.overflow_mul-pairs c).Else-is_err))

pub overflow_mul-count : goal.overflow_mul-count
overflow_mul-count c = omega (arith, entries_small _ (well (goal.at.overflow_mul-count c).Else-is_err))

pub put_zeros-requires : goal.put_zeros-requires
put_zeros-requires c = omega (arith, entries_small _ (well (goal.at.put_zeros-requires c).Else-is_err), room (goal.at.put_zeros-requires c).Else-is_err)

pub overflow_mul-end : goal.overflow_mul-end
overflow_mul-end c = omega (arith, ranks_small _ (well (goal.at.overflow_mul-end c).Else-is_err))

pub overflow_add-end : goal.overflow_add-end
overflow_add-end c = omega (arith, ranks_small _ (well (goal.at.overflow_add-end c).Else-is_err))

pub overflow_mul-end-2 : goal.overflow_mul-end-2
overflow_mul-end-2 c = omega (arith, turns_small _ (well (goal.at.overflow_mul-end-2 c).Else-is_err))

pub invariant_of-tabled : goal.invariant_of-tabled
invariant_of-tabled c = record { well = valid_is_well _ (formed (goal.at.invariant_of-tabled c).Else-is_err) }

pub returns-then-is_ok : goal.returns-then-is_ok
returns-then-is_ok c =
    answer (goal.at.returns-then-is_ok c).At-loop (lifted_done _ c.loop.table _ (sym c.lines.ensures ∙ ok_passed _ (sym c.is_ok.ensures.value ∙ c.if-is_ok.true)))

pub loop-preserved : goal.loop-preserved
loop-preserved c =
    let call = c.sweep in (
      search rules,
      call.auto.table ∙ c.loop.invariant.1,
      let r = ok_failed _ (sym c.is_ok.ensures.value ∙ c.if-is_ok.false) in lifted_next _ c.loop.table _ _ r.0 (sym c.lines.ensures ∙ r.1) call.ensures (omega arith) ∙ c.loop.invariant.2,
    )

pub returns : goal.returns
returns c = answer (goal.at.returns c).At-loop (lifted_none _ c.loop.table _ (omega arith))
