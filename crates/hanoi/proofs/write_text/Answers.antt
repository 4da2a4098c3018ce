-- The buffer, then the machine; then the text, which is copied to the front.
use mathlib.Core.Path.{sym, ap, ◌∙◌}
use lib.ListN.{length}
use native.Mathlib.Omega.{arith}
use Rattle.machine.proofs.Passing.{passed_on}
use Rattle.hanoi.proofs.CallLaws.{text_short, text_stopped, text_copied}
use Rattle.hanoi.proofs.write_text.Goals as goal

pub returns-then-out-lt-TEXT_ROOM : goal.returns-then-out-lt-TEXT_ROOM
returns-then-out-lt-TEXT_ROOM c =
    let x = c.args in
    let both = text_short x.m x.out.now c.if-out-lt-TEXT_ROOM.true in
    record { answer = sym both.0; content = sym both.1 }

pub returns-in_err-machine_validity : goal.returns-in_err-machine_validity
returns-in_err-machine_validity c =
    let x = c.args in
    let both = text_stopped x.m x.out.now (omega (arith, c.if-out-lt-TEXT_ROOM.false)) (sym c.machine_validity.ensures ∙ c.in_err-machine_validity.was) in
    record { answer = passed_on c.from_residual.ensures ∙ sym both.0; content = sym both.1 }

pub returns : goal.returns
returns c =
    let x = c.args in
    let text = c.append_text.ensures in
    let both =
    text_copied x.m x.out.now (omega (arith, c.if-out-lt-TEXT_ROOM.false)) (sym c.machine_validity.ensures ∙ c.in_ok-machine_validity.was)
    (c.len-n.ensures.value ∙ ap length text) (c.copy_from_slice.ensures.after ∙ c.deref.ensures.0 ∙ text) in
    record { answer = both.0; content = both.1 }
