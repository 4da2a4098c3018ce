-- The lent table is tested, and then the solver says the rest: what it refuses is passed on, and otherwise its family is the turn's. As many entries
-- of its table as are due are copied: all if each row is as it was, and else none.
use Rattle.std.proofs.Common.{◌≡◌, ◌⊎◌, inl, inr, true, false, ℕ, ◌≤◌, sym, ◌∙◌, length, arith, rules}
use Rattle.std.proofs.lemmas.List.{length-replicate, length-take-le}
use Rattle.mask.proofs.RangeLaws.{pointwise_every}
use Rattle.machine.specs.Table.{table_room, entries}
use Rattle.machine.specs.RefusalsLaws.{buffer_short}
use Rattle.machine.proofs.Passing.{passed_on}
use Rattle.solver.specs.SolverLaws.{solve_short}
use Rattle.progress.specs.TurnsLaws.{turn_refused, turn_stopped, turn_well, turn_made, copied_small, copied_front}
use Rattle.progress.proofs.turn.Goals as goal
use Rattle.progress.proofs.turn.Goals.{Joined-finished, then-finished, else-finished}

pub returns-then-table-lt-TABLE_ROOM : goal.returns-then-table-lt-TABLE_ROOM
returns-then-table-lt-TABLE_ROOM c =
    let x = c.args in
    let short = buffer_short _ (length x.table.now) c.if-table-lt-TABLE_ROOM.true in
    let k = turn_refused x.p x.family.now x.table.now (solve_short x.p (length x.table.now) short) in
    record { answer = sym k.0; family = sym k.1; content = sym k.2 }

pub returns-in_err-turn_family : goal.returns-in_err-turn_family
returns-in_err-turn_family c =
    let x = c.args in
    let k = turn_stopped x.p x.family.now x.table.now c.if-table-lt-TABLE_ROOM.false c.turn_family.ensures.answer c.turn_family.ensures.family c.in_err-turn_family.was in
    record { answer = passed_on c.from_residual.ensures ∙ k.0; family = k.1.0; content = k.1.1 }

pub invariant_of-formed : goal.invariant_of-formed
invariant_of-formed c =
    let x = c.args in
    record { well = turn_well x.p x.family.now x.table.now c.if-table-lt-TABLE_ROOM.false c.turn_family.ensures.answer c.turn_family.ensures.family c.in_ok-turn_family.was }

-- all entries or none are due
written : (c : Joined-finished) →
    let p = c.args.p in
    ((c.eq-finished.result ≡ true) × (c.if-finished.written ≡ entries p)) ⊎ ((c.eq-finished.result ≡ false) × (c.if-finished.written ≡ 0))
written c = elim c.if-finished.branch [
  | then-finished w ↦ inl (w.if-finished.true, w.written-is ∙ w.entries_of-written.ensures)
  | else-finished w ↦ inr (w.if-finished.false, w.written-is)
]

-- and both tables have room for them
room : (c : Joined-finished) → (c.if-finished.written ≤ length c.args.table.now) × (c.if-finished.written ≤ length c.turn_family.new.table)
room c =
    let x = c.args in
    let small = copied_small x.p x.family.now x.table.now c.if-table-lt-TABLE_ROOM.false c.turn_family.ensures.answer c.turn_family.ensures.family c.in_ok-turn_family.was (written c) in
    (omega (arith, small, c.if-table-lt-TABLE_ROOM.false), omega (arith, small, c.turn_family.auto.table ∙ length-replicate {A = ℕ} table_room 0))

pub slice_bounds-copy_from_slice-end : goal.slice_bounds-copy_from_slice-end
slice_bounds-copy_from_slice-end c = (room c).0

pub slice_bounds-copy_from_slice-end-2 : goal.slice_bounds-copy_from_slice-end-2
slice_bounds-copy_from_slice-end-2 c = sym (length-take-le _ _ (room (goal.at.slice_bounds-copy_from_slice-end-2 c).Joined-finished).0)

pub slice_bounds-ranks-end : goal.slice_bounds-ranks-end
slice_bounds-ranks-end c = (room (goal.at.slice_bounds-ranks-end c).Joined-finished).1

pub slice_bounds-copy_from_slice-end-3 : goal.slice_bounds-copy_from_slice-end-3
slice_bounds-copy_from_slice-end-3 c = sym (length-take-le _ _ (room (goal.at.slice_bounds-copy_from_slice-end-3 c).Joined-finished).1)

pub copy_from_slice-requires : goal.copy_from_slice-requires
copy_from_slice-requires c =
    let r = room (goal.at.copy_from_slice-requires c).Joined-finished in
    length-take-le _ _ r.0 ∙ sym (length-take-le _ _ r.1)

pub returns : goal.returns
returns c =
    let x = c.args in
    let same = c.eq-finished.ensures ∙ pointwise_every {n = 448} x.family.now c.turn_family.new.family (search rules) (search rules) in
    let copied = copied_front c.if-finished.written c.turn_family.new.table x.table.now (room (goal.at.returns c).Joined-finished).1 c.copy_from_slice.ensures.after in
    let m = turn_made x.p x.family.now x.table.now c.if-table-lt-TABLE_ROOM.false c.turn_family.ensures.answer c.turn_family.ensures.family c.in_ok-turn_family.was c.turn_family.ensures.content
    same (written (goal.at.returns c).Joined-finished) copied in
    record { answer = m.0; family = m.1.0; content = m.1.1 }
