-- The counts of both machines are tested first; then the concrete machine, and where nothing of it is refused, the abstract one. That case stands
-- first: there an edit that leaves the concrete machine's sets untested is refused.
use mathlib.Core.Path.{sym, ◌∙◌}
use Rattle.machine.specs.WellFormedLaws.{bad_concrete_counts, bad_abstract_counts, bad_concrete, good_concrete}
use Rattle.machine.proofs.Passing.{passed_on}
use Rattle.validity.proofs.pair_validity.Goals as goal

pub returns : goal.returns
returns c =
    c.content_tests-2.ensures
    ∙ sym (good_concrete _ _ (sym c.counts_ok.ensures ∙ c.if-not-counts_ok.false) (sym c.counts_ok-2.ensures ∙ c.if-not-counts_ok-2.false) (sym c.content_tests.ensures ∙ c.in_ok-content_tests.was))

pub returns-then-not-counts_ok : goal.returns-then-not-counts_ok
returns-then-not-counts_ok c = sym (bad_concrete_counts _ _ (sym c.counts_ok.ensures ∙ c.if-not-counts_ok.true))

pub returns-then-not-counts_ok-2 : goal.returns-then-not-counts_ok-2
returns-then-not-counts_ok-2 c = sym (bad_abstract_counts _ _ (sym c.counts_ok-2.ensures ∙ c.if-not-counts_ok-2.true))

pub returns-in_err-content_tests : goal.returns-in_err-content_tests
returns-in_err-content_tests c =
    passed_on c.from_residual.ensures
    ∙ sym (bad_concrete _ _ (sym c.counts_ok.ensures ∙ c.if-not-counts_ok.false) (sym c.counts_ok-2.ensures ∙ c.if-not-counts_ok-2.false) _ (sym c.content_tests.ensures ∙ c.in_err-content_tests.was))
