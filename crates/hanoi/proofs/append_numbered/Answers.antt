-- The word, and the digits behind it.
use Rattle.std.proofs.Common.{List, ℕ, ◌++◌, take, ap, ◌∙◌}
use Rattle.text.specs.Decimal.{decimal}
use Rattle.text.specs.AppendLaws.{cut_two}
use Rattle.hanoi.proofs.append_numbered.Goals as goal

pub returns : goal.returns
returns c =
    let x = c.args in
    c.append_number.ensures ∙ ap (λ (l : List ℕ). take 20000 (l ++ decimal x.n)) c.append.ensures ∙ cut_two 20000 x.text.now.items x.word.now (decimal x.n)
