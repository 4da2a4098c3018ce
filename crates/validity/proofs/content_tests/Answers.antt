-- 9 to 11 come first; behind them, where nonempty sets are asked for, the lowest empty set is refused.
use mathlib.Core.Path.{sym, ◌∙◌}
use Rattle.machine.specs.RefusalsLaws.{then_of}
use Rattle.machine.specs.WellFormedLaws.{content_only, content_then_sets}
use Rattle.machine.specs.EmptySetsLaws.{tests_stopped}
use Rattle.machine.proofs.Passing.{passed_on}
use Rattle.validity.specs.Asked.{asks_states}
use Rattle.validity.proofs.content_tests.Goals as goal

pub returns-in_err-content_validity : goal.returns-in_err-content_validity
returns-in_err-content_validity c =
    let x = c.args in
    passed_on c.from_residual.ensures ∙ sym (tests_stopped x.index x.m (asks_states x.sets) (sym c.content_validity.ensures ∙ c.in_err-content_validity.was))

pub returns-in-Any : goal.returns-in-Any
returns-in-Any c =
    let x = c.args in
    rw c.in-Any.is (sym (content_only x.index x.m ∙ sym c.content_validity.ensures ∙ c.in_ok-content_validity.was))

pub returns-in-Nonempty : goal.returns-in-Nonempty
returns-in-Nonempty c =
    let x = c.args in
    rw c.in-Nonempty.is (c.sets_validity.ensures ∙ sym (content_then_sets x.index x.m ∙ then_of _ _ (sym c.content_validity.ensures ∙ c.in_ok-content_validity.was)))
