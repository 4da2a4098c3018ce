-- Each return is what the definitions say of the reading, and of the solver's answer, that led there.
use Rattle.std.proofs.Common.{sym, ◌∙◌}
use Rattle.machine.proofs.Passing.{passed_on}
use Rattle.restore.specs.RestoringLaws.{restore_short, restore_refused, restore_unsolved, restore_taken}
use Rattle.restore.proofs.solve_bytes.Goals as goal

pub returns-then-out-lt-FILE_ROOM : goal.returns-then-out-lt-FILE_ROOM
returns-then-out-lt-FILE_ROOM c =
    let x = c.args in
    let both = restore_short x.bytes.now x.out.now c.if-out-lt-FILE_ROOM.true in
    record { answer = sym both.0; content = sym both.1 }

pub returns-in_err-show : goal.returns-in_err-show
returns-in_err-show c =
    let read = c.read_file-show.ensures in
    let x = c.args in
    let both = restore_refused x.bytes.now x.out.now c.if-out-lt-FILE_ROOM.false _ _ read.answer read.content _ c.in_err-show.was in
    record { answer = passed_on c.from_residual.ensures ∙ sym both.0; content = sym both.1 }

pub returns-in_err-solve : goal.returns-in_err-solve
returns-in_err-solve c =
    let read = c.read_file-show.ensures in
    let x = c.args in
    let both = restore_unsolved x.bytes.now x.out.now c.if-out-lt-FILE_ROOM.false _ _ read.answer read.content _ c.in_ok-show.was _
    (sym c.solve.ensures.answer ∙ c.in_err-solve.was) in
    record { answer = passed_on c.from_residual-in_err-solve.ensures ∙ sym both.0; content = sym both.1 }

pub returns : goal.returns
returns c =
    let read = c.read_file-show.ensures in
    let x = c.args in
    let both = restore_taken x.bytes.now x.out.now c.if-out-lt-FILE_ROOM.false _ _ read.answer read.content _ c.in_ok-show.was _
    (sym c.solve.ensures.answer ∙ c.in_ok-solve.was) c.solve.ensures.content in
    record { answer = c.write_file.ensures.answer ∙ sym both.0; content = c.write_file.ensures.bytes ∙ sym both.1 }
