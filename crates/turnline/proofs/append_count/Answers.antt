-- The blank, and the digits behind it.
use Rattle.std.proofs.Common.{List, ℕ, [], ◌∷◌, ◌++◌, take, ap, ◌∙◌}
use Rattle.text.specs.Decimal.{decimal}
use Rattle.text.specs.AppendLaws.{cut_two}
use Rattle.turnline.proofs.append_count.Goals as goal

pub returns : goal.returns
returns c =
    let x = c.args in
    c.append_number.ensures ∙ ap (λ (l : List ℕ). take 128 (l ++ decimal x.n)) c.append_byte.ensures ∙ cut_two 128 x.line.now.items (32 ∷ []) (decimal x.n)
