-- The counts of both machines are tested first; then the concrete machine, and where nothing of it is refused, the abstract one.
use Rattle.std.proofs.Common.{sym, ◌∙◌}
use Rattle.machine.proofs.Passing.{passed_on}
use Rattle.machine.specs.WellFormedLaws.{bad_abstract_counts, bad_concrete, bad_concrete_counts, good_concrete}
use Rattle.brute.proofs.machines.tests.Goals as goal
use Rattle.brute.proofs.machines.tests.Goals.{then-not-has_counts-via-else-not-has_counts+then-not-has_counts-2, then-not-has_counts-via-then-not-has_counts}

pub returns-then-not-has_counts : goal.returns-then-not-has_counts
returns-then-not-has_counts c = elim c.then-not-has_counts.branch [
  | then-not-has_counts-via-then-not-has_counts w ↦ sym (bad_concrete_counts _ _ (sym c.has_counts.ensures ∙ w.if-not-has_counts.true))
  | then-not-has_counts-via-else-not-has_counts+then-not-has_counts-2 w ↦ sym (bad_abstract_counts _ _ (sym w.has_counts-else-not-has_counts.ensures ∙ w.if-not-has_counts-2.true))
]

pub returns-in_err-content_and_sets : goal.returns-in_err-content_and_sets
returns-in_err-content_and_sets c =
    passed_on c.from_residual.ensures
    ∙ sym (bad_concrete _ _ (sym c.has_counts.ensures ∙ c.if-not-has_counts.false) (sym c.has_counts-else-not-has_counts.ensures ∙ c.if-not-has_counts-2.false) _ (sym c.content_and_sets.ensures ∙ c.in_err-content_and_sets.was))

pub returns : goal.returns
returns c =
    c.content_and_sets-2.ensures
    ∙ sym (good_concrete _ _ (sym c.has_counts.ensures ∙ c.if-not-has_counts.false) (sym c.has_counts-else-not-has_counts.ensures ∙ c.if-not-has_counts-2.false) (sym c.content_and_sets.ensures ∙ c.in_ok-content_and_sets.was))
