-- A lent table that is too short, the reader's refusal, or a turn over the machines: each return is what the definitions say of it.
use mathlib.Core.Path.{sym, ◌∙◌}
use Rattle.machine.proofs.Passing.{passed_on}
use Rattle.watch.specs.WatchingLaws.{machines_at, machines_stopped, turn_short, turn_unread, turn_read}
use Rattle.watch.proofs.turn_bytes.Goals as goal

pub returns-then-table-lt-TABLE_ROOM : goal.returns-then-table-lt-TABLE_ROOM
returns-then-table-lt-TABLE_ROOM c =
    let x = c.args in
    let all = turn_short x.bytes.now x.family.now x.table.now c.if-table-lt-TABLE_ROOM.true in
    record { answer = sym all.0; family = sym all.1; content = sym all.2 }

pub returns-in_err-pair : goal.returns-in_err-pair
returns-in_err-pair c =
    let x = c.args in
    let stopped = machines_stopped _ (sym c.machines_of.ensures ∙ c.in_err-pair.was) in
    let all = turn_unread x.bytes.now x.family.now x.table.now c.if-table-lt-TABLE_ROOM.false stopped in
    record { answer = passed_on c.from_residual.ensures ∙ sym all.0; family = sym all.1; content = sym all.2 }

pub returns : goal.returns
returns c =
    let x = c.args in
    let read = machines_at _ (sym c.machines_of.ensures ∙ c.in_ok-pair.was) in
    let all = turn_read x.bytes.now x.family.now x.table.now read.0 read.1 in
    let made = c.turn.ensures in
    record { answer = made.answer ∙ sym all.0; family = made.family ∙ sym all.1; content = made.content ∙ sym all.2 }
