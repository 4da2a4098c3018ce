-- A digit is plain; of any other byte the blank decides.
use mathlib.Core.Path.{sym, ◌∙◌}
use Rattle.playline.specs.LassoLaws.{digit_told, plain_digit, plain_other}
use Rattle.playline.proofs.is_plain.Goals as goal

pub returns-then-is_ascii_digit : goal.returns-then-is_ascii_digit
returns-then-is_ascii_digit c =
    let t = c.if-is_ascii_digit.true in
    t ∙ plain_digit c.args.b (sym (digit_told c.args.b _ c.is_ascii_digit.ensures.cases) ∙ t)

pub returns-else-is_ascii_digit : goal.returns-else-is_ascii_digit
returns-else-is_ascii_digit c = plain_other c.args.b (sym (digit_told c.args.b _ c.is_ascii_digit.ensures.cases) ∙ c.if-is_ascii_digit.false)
