-- The digits, and the byte behind them.
use Rattle.std.proofs.Common.{List, ℕ, ap, take, ◌++◌, ◌∷◌, [], ◌∙◌}
use Rattle.text.specs.Decimal.{decimal}
use Rattle.text.specs.AppendLaws.{cut_two}
use Rattle.report.proofs.append_field.Goals as goal

pub returns : goal.returns
returns c =
    let x = c.args in
    c.append_byte.ensures ∙ ap (λ (l : List ℕ). take 128 (l ++ (x.after ∷ []))) c.append_number.ensures ∙ cut_two 128 x.line.now.items (decimal x.n) (x.after ∷ [])
