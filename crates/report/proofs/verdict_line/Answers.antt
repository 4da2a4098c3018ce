-- Each case is one of the definition.
use Rattle.std.proofs.Common.{sym, ap, ◌∙◌}
use Rattle.std.specs.Prelude.{Ok}
use Rattle.report.specs.Answers.{line_of}
use Rattle.report.specs.LineLaws.{text_of}
use Rattle.report.specs.Text.{told_line}
use Rattle.report.proofs.verdict_line.Goals as goal

pub returns-in-Some : goal.returns-in-Some
unfolding told_line
returns-in-Some g c =
    let said = c.args.said in
    let text = c.checked_line.ensures ∙ sym (ap (told_line g.R.Numbered.four) (c.in-Ok.is ∙ ap Ok c.in-Some.is)) in
    let value = c.line_of.ensures.value ∙ ap line_of text in
    record { value = value; text = text_of (told_line g.R.Numbered.four said) value; room = c.line_of.ensures.room }

pub returns-in-None : goal.returns-in-None
unfolding told_line
returns-in-None g c =
    let said = c.args.said in
    let text = c.bare_line.ensures ∙ sym (ap (told_line g.R.Numbered.four) (c.in-Ok.is ∙ ap Ok c.in-None.is)) in
    let value = c.line_of-in-None.ensures.value ∙ ap line_of text in
    record { value = value; text = text_of (told_line g.R.Numbered.four said) value; room = c.line_of-in-None.ensures.room }

pub returns-in-Err : goal.returns-in-Err
unfolding told_line
returns-in-Err g c =
    let said = c.args.said in
    let value = c.refusal_line.ensures.value ∙ ap line_of (sym (ap (told_line g.R.Numbered.four) c.in-Err.is)) in
    record { value = value; text = text_of (told_line g.R.Numbered.four said) value; room = c.refusal_line.ensures.room }
