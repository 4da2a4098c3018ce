-- The reader's refusal, or what the look-up in the machines says.
use mathlib.Core.Path.{sym, ◌∙◌}
use Rattle.machine.proofs.Passing.{passed_on}
use Rattle.watch.specs.WatchingLaws.{machines_at, machines_stopped, look_unread, look_read}
use Rattle.watch.proofs.look_up_bytes.Goals as goal

pub returns-in_err-pair : goal.returns-in_err-pair
returns-in_err-pair c =
    passed_on c.from_residual.ensures ∙ sym (look_unread _ _ _ _ _ (machines_stopped _ (sym c.machines_of.ensures ∙ c.in_err-pair.was)))

pub returns : goal.returns
returns c =
    let read = machines_at _ (sym c.machines_of.ensures ∙ c.in_ok-pair.was) in
    let x = c.args in
    c.look_up.ensures ∙ look_read x.bytes.now x.family.now x.section x.c x.a read.0 read.1
