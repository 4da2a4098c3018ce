-- Each return is what `file_outcome` says of the reading that led there.
use mathlib.Core.Path.{sym, ◌∙◌}
use Rattle.machine.specs.Verdict.{check_verdict}
use Rattle.machine.proofs.Passing.{passed_on}
use Rattle.codec.specs.AnswersLaws.{read_taken, read_refused}
use Rattle.codec.specs.OutcomesLaws.{outcome_refused, outcome_read}
use Rattle.verdict.proofs.file_verdict.Goals as goal

pub returns-in_err-has_table : goal.returns-in_err-has_table
returns-in_err-has_table c =
    passed_on c.from_residual.ensures ∙ sym (outcome_refused check_verdict _ (read_refused _ c.read_file-show.ensures.answer c.in_err-has_table.was))

pub returns : goal.returns
returns c =
    let r = c.read_file-show.ensures in
    c.table_verdict.ensures ∙ sym (outcome_read check_verdict _ (read_taken _ r.answer c.in_ok-has_table.was) r.content)
