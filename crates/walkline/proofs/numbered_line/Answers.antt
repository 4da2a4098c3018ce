-- The number, a blank and the line of what is said, one behind the other, and there is room for them.
use Rattle.std.proofs.Common.{List, ℕ, [], ◌∷◌, ◌++◌, take, ◌∙◌, ap}
use Rattle.text.specs.Decimal.{decimal}
use Rattle.text.specs.AppendLaws.{appended_new, last, next}
use Rattle.report.specs.Text.{blank_space, outcome_line}
use Rattle.report.specs.TextLaws.{told_outcome}
use Rattle.walkline.specs.LinesLaws.{numbered_line_lem}
use Rattle.walkline.proofs.numbered_line.Goals as goal

pub returns : goal.returns
returns c =
    let said = c.verdict_line-told.ensures.text ∙ told_outcome c.args.said in
    appended_new 128 (decimal c.args.file ∷ blank_space ∷ outcome_line c.args.said ∷ []) c.new-line.ensures
    (next c.append_number.ensures (next c.append_byte.ensures
    (last (c.append.ensures ∙ ap (λ (w : List ℕ). take 128 (c.append_byte.new.text.items ++ w)) said))))
    ∙ numbered_line_lem c.args.file c.args.said
