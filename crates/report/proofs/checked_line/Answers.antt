-- Each case puts its word and its numbers one after the other, as the definition joins them.
use Rattle.std.proofs.Common.{[], ◌∷◌, ◌++◌, sym, ap, ◌∙◌}
use Rattle.text.specs.Decimal.{decimal}
use Rattle.text.specs.AppendLaws.{appended_new, last, next}
use Rattle.report.specs.Text.{carried_text, not_carried_text, blank_space, line_feed, verdict_line}
use Rattle.report.specs.TextLaws.{carried_line, not_carried_line}
use Rattle.report.proofs.checked_line.Goals as goal

pub returns-in-Carried : goal.returns-in-Carried
returns-in-Carried c =
    let n = c.in-Carried in
    appended_new 128 (carried_text ∷ (decimal n.covered ++ line_feed) ∷ []) c.new-line.ensures (next c.append.ensures (last c.append_field.ensures))
    ∙ carried_line n.covered ∙ sym (ap verdict_line n.is)

pub returns-in-NotCarried : goal.returns-in-NotCarried
returns-in-NotCarried c =
    let n = c.in-NotCarried in
    appended_new 128 (not_carried_text ∷ (decimal n.lacking ++ blank_space) ∷ (decimal n.covered ++ line_feed) ∷ []) c.new-line.ensures
    (next c.append-in-NotCarried.ensures (next c.append_field-in-NotCarried.ensures (last c.append_field-in-NotCarried-2.ensures)))
    ∙ not_carried_line n.lacking n.covered ∙ sym (ap verdict_line n.is)
