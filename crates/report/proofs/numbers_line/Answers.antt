-- The word and four numbers, each put behind the line so far, are the parts of the definition, and there is room for them.
use Rattle.std.proofs.Common.{ℕ, ap, get_or, ◌∙◌}
use Rattle.std.specs.Prelude.{refl}
use Rattle.text.specs.AppendLaws.{appended_new, last, next}
use Rattle.report.specs.Answers.{line_of}
use Rattle.report.specs.LineLaws.{text_of}
use Rattle.report.specs.Text.{numbers_line}
use Rattle.report.specs.TextLaws.{refusal_parts, numbers_text}
use Rattle.report.proofs.numbers_line.Goals as goal

pub returns : goal.returns
returns c =
    let four = c.args.four in
    let told : ℕ → ℕ = λ i. get_or four i 0 in
    let line =
    appended_new 128 (refusal_parts (told 0) (told 1) (told 2) (told 3)) c.new-line.ensures
    (next c.append.ensures (next c.append_field.ensures (next c.append_field-2.ensures (next c.append_field-3.ensures (last c.append_field-4.ensures))))) in
    let text = line ∙ numbers_text four (told 0) (told 1) (told 2) (told 3) refl refl refl refl in
    let value = c.line_of.ensures.value ∙ ap line_of text in
    record { value = value; text = text_of (numbers_line four) value; room = c.line_of.ensures.room }
