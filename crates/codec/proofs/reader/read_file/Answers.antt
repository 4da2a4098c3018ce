-- The tests are made in the order of the definition; where none of them refuses, what is taken is what is said.
use mathlib.Core.Path.{◌≡◌, sym, ◌∙◌}
use Rattle.machine.specs.Refusals.{and_then, valid}
use Rattle.machine.specs.RefusalsLaws.{then_refused, buffer_kept}
use Rattle.codec.specs.Reader.{first_validity, blocks_validity, read_answer, read_table}
use Rattle.codec.proofs.ReaderLaws.{read_short, tests_refused, read_pair}
use Rattle.codec.specs.AnswersLaws.{shown_refused}
use Rattle.codec.proofs.reader.read_file.Goals as goal
use Rattle.codec.proofs.reader.read_file.Goals.{In-Ok}

-- the tests of the whole file say that it is right
right : (c : In-Ok) → let f = c.args.bytes.now in and_then (first_validity f) (blocks_validity f) ≡ valid
right c = sym c.file_validity.ensures ∙ c.in-Ok.is

pub returns-then-table-lt-TABLE_ROOM : goal.returns-then-table-lt-TABLE_ROOM
unfolding read_answer read_table
returns-then-table-lt-TABLE_ROOM c =
    let e = read_short c.args.bytes.now _ c.if-table-lt-TABLE_ROOM.true in
    let shown = shown_refused c.refused_show.result (then_refused _ _ _ e) c.refused_show.ensures.answer c.refused_show.ensures.machines in
    record { answer = shown.0; machines = shown.1; content = sym (buffer_kept _ _ _ e) }

pub returns-in-Err : goal.returns-in-Err
unfolding read_answer read_table
returns-in-Err c =
    let e = tests_refused c.args.bytes.now _ c.if-table-lt-TABLE_ROOM.false _ (sym c.file_validity.ensures ∙ c.in-Err.is) in
    let shown = shown_refused c.refused_show-in-Err.result (then_refused _ _ _ e) c.refused_show-in-Err.ensures.answer c.refused_show-in-Err.ensures.machines in
    record { answer = shown.0; machines = shown.1; content = sym (buffer_kept _ _ _ e) }

pub returns-in-Ok : goal.returns-in-Ok
unfolding read_answer read_table
returns-in-Ok c =
    let e = read_pair c.args.bytes.now _ c.if-table-lt-TABLE_ROOM.false (right (goal.at.returns-in-Ok c).In-Ok) in
    let t = c.take_show.ensures in
    record { answer = rw e t.answer; machines = rw e t.machines; content = rw e t.content }
