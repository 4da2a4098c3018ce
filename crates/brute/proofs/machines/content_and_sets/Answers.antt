-- 9 to 11 come first; behind them, where nonempty sets are asked for, the lowest empty set is refused.
use Rattle.std.proofs.Common.{sym, ◌∙◌}
use Rattle.machine.proofs.Passing.{passed_on}
use Rattle.machine.specs.EmptySetsLaws.{tests_stopped}
use Rattle.machine.specs.RefusalsLaws.{then_of}
use Rattle.machine.specs.WellFormedLaws.{content_only, content_then_sets}
use Rattle.brute.specs.Asked.{asks_states}
use Rattle.brute.proofs.machines.content_and_sets.Goals as goal

pub returns-in_err-content : goal.returns-in_err-content
returns-in_err-content c =
    let x = c.args in
    passed_on c.from_residual.ensures ∙ sym (tests_stopped x.i x.m.now (asks_states x.asked) (sym c.content.ensures ∙ c.in_err-content.was))

pub returns-in-Nonempty : goal.returns-in-Nonempty
returns-in-Nonempty c =
    let x = c.args in
    rw c.in-Nonempty.is (c.sets_nonempty.ensures ∙ sym (content_then_sets x.i x.m.now ∙ then_of _ _ (sym c.content.ensures ∙ c.in_ok-content.was)))

pub returns-in-Any : goal.returns-in-Any
returns-in-Any c =
    let x = c.args in
    rw c.in-Any.is (sym (content_only x.i x.m.now ∙ sym c.content.ensures ∙ c.in_ok-content.was))
