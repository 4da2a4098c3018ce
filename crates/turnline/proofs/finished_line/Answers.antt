-- The word, the number and the line feed, one behind the other, and there is room for them.
use Rattle.std.proofs.Common.{[], ◌∷◌, ap, ◌∙◌}
use Rattle.text.specs.Decimal.{decimal}
use Rattle.text.specs.AppendLaws.{appended_new, last, next}
use Rattle.report.specs.Answers.{line_of}
use Rattle.report.specs.LineLaws.{text_of}
use Rattle.turnline.specs.Lines.{finished_text, finished_line}
use Rattle.turnline.specs.LinesLaws.{finished_line_lem}
use Rattle.turnline.proofs.finished_line.Goals as goal

pub returns : goal.returns
returns c =
    let text =
    appended_new 128 (finished_text ∷ decimal c.args.t ∷ (10 ∷ []) ∷ []) c.new-line.ensures (next c.append.ensures (next c.append_number.ensures (last c.append_byte.ensures)))
    ∙ finished_line_lem c.args.t in
    let value = c.line_of.ensures.value ∙ ap line_of text in
    record { value = value; text = text_of (finished_line c.args.t) value; room = c.line_of.ensures.room }
