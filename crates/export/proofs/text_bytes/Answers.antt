-- Each return is what the definitions say of the reading, and of the machine asked for, that led there.
use mathlib.Core.Path.{sym, ◌∙◌}
use native.Mathlib.Omega.{arith}
use Rattle.machine.proofs.Passing.{passed_on}
use Rattle.codec.proofs.FileLaws.{machines_taken, machines_pair, machines_refused}
use Rattle.export.specs.ExportingLaws.{first_machine, second_machine, export_short, export_unread, export_neither, export_written}
use Rattle.export.proofs.text_bytes.Goals as goal

pub returns-then-out-lt-TEXT_ROOM : goal.returns-then-out-lt-TEXT_ROOM
returns-then-out-lt-TEXT_ROOM c =
    let x = c.args in
    let both = export_short x.bytes.now x.which x.out.now c.if-out-lt-TEXT_ROOM.true in
    record { answer = sym both.0; content = sym both.1 }

pub returns-in_err-show : goal.returns-in_err-show
returns-in_err-show c =
    let x = c.args in
    let both = export_unread x.bytes.now x.which x.out.now (omega (arith, c.if-out-lt-TEXT_ROOM.false)) (machines_refused _ _ c.read_file-show.ensures.answer c.in_err-show.was) in
    record { answer = passed_on c.from_residual.ensures ∙ sym both.0; content = sym both.1 }

pub returns-in-0 : goal.returns-in-0
returns-in-0 c =
    let x = c.args in
    let read = c.read_file-show.ensures.answer in
    let told = c.in_ok-show.was in
    let same = first_machine x.bytes.now x.which (omega arith) (machines_pair _ _ read told) in
    let both = export_written x.bytes.now x.which x.out.now (omega (arith, c.if-out-lt-TEXT_ROOM.false)) (machines_taken _ _ read told) _ (omega arith) same in
    let text = c.write_text.ensures in
    record { answer = text.answer ∙ sym both.0; content = text.content ∙ sym both.1 }

pub returns-in-1 : goal.returns-in-1
returns-in-1 c =
    let x = c.args in
    let read = c.read_file-show.ensures.answer in
    let told = c.in_ok-show.was in
    let same = second_machine x.bytes.now x.which (omega arith) (machines_pair _ _ read told) in
    let both = export_written x.bytes.now x.which x.out.now (omega (arith, c.if-out-lt-TEXT_ROOM.false)) (machines_taken _ _ read told) _ (omega arith) same in
    let text = c.write_text-in-1.ensures in
    record { answer = text.answer ∙ sym both.0; content = text.content ∙ sym both.1 }

pub returns-in_default : goal.returns-in_default
returns-in_default c =
    let x = c.args in
    let both = export_neither x.bytes.now x.which x.out.now (omega (arith, c.if-out-lt-TEXT_ROOM.false)) (machines_taken _ _ c.read_file-show.ensures.answer c.in_ok-show.was) (omega arith) in
    record { answer = sym both.0; content = sym both.1 }
