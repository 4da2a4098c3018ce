-- Each return is what `outcome_after` says of the note that led there.
use mathlib.Core.Path.{◌≡◌, sym, ap, ◌∙◌}
use Rattle.std.specs.Prelude.{Bool, Ok, Some}
use Rattle.machine.specs.declared.Checked.{Checked}
use Rattle.machine.specs.Refusals.{Answer, pass_on}
use Rattle.machine.specs.Verdict.{verdict_of, check_verdict}
use Rattle.machine.proofs.Passing.{passed_on}
use Rattle.codec.specs.Reader.{taken}
use Rattle.codec.specs.Outcomes.{outcome_after}
use Rattle.codec.specs.OutcomesLaws.{after_bare, after_taken}
use Rattle.verdict.proofs.table_verdict.Goals as goal
use Rattle.verdict.proofs.table_verdict.Goals.{After-check_table}

pub returns-then-not-has_table : goal.returns-then-not-has_table
returns-then-not-has_table c =
    sym (after_bare check_verdict c.args.table.now c.args.pair)
    ∙ ap (λ (b : Bool). outcome_after check_verdict c.args.table.now (taken c.args.pair b)) (sym c.if-not-has_table.true)

-- what the check says of the table is said of the file
checked : (c : After-check_table) {a : Answer Checked} → c.check_table.result ≡ a
    → outcome_after check_verdict c.args.table.now (taken c.args.pair c.args.has_table) ≡ pass_on (verdict_of a) (λ v. Ok (Some v))
checked c e =
    ap (λ (b : Bool). outcome_after check_verdict c.args.table.now (taken c.args.pair b)) c.if-not-has_table.false
    ∙ after_taken check_verdict c.args.table.now c.args.pair c.check_table.ensures.verdict
    ∙ ap (λ (a : Answer Checked). pass_on (verdict_of a) (λ v. Ok (Some v))) e

pub returns-in_err-checked : goal.returns-in_err-checked
unfolding verdict_of pass_on
returns-in_err-checked c =
    passed_on c.from_residual.ensures ∙ sym (checked (goal.at.returns-in_err-checked c).After-check_table c.in_err-checked.was)

pub returns : goal.returns
unfolding verdict_of pass_on
returns c = sym (checked (goal.at.returns c).After-check_table c.in_ok-checked.was)
