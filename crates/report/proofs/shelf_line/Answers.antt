-- Longer input is cut and shorter input is its own front.
use Rattle.std.proofs.Common.{ap, ◌∙◌, arith}
use Rattle.verdict.specs.Outcomes.{file_outcome}
use Rattle.report.specs.Answers.{line_of}
use Rattle.report.specs.LineLaws.{text_of}
use Rattle.report.specs.Text.{outcome_line, shelf_line}
use Rattle.report.specs.TextLaws.{input_cut, told_outcome}
use Rattle.report.proofs.shelf_line.Goals as goal

pub returns : goal.returns
unfolding shelf_line
returns c =
    let input = c.args.bytes.now in
    let said = c.file_verdict.ensures ∙ ap file_outcome (input_cut input (omega (arith, c.min-end.ensures))) in
    let value = c.verdict_line.ensures.value ∙ ap line_of (told_outcome _ ∙ ap outcome_line said) in
    record { value = value; text = text_of (shelf_line input) value; room = c.verdict_line.ensures.room }
