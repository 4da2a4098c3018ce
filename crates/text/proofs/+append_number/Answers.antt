-- The last digit goes behind those of the tenth; a number of one digit is its digit.
use Rattle.std.proofs.Common.{List, [], ◌∷◌, ℕ, ◌+◌, ◌/◌, ◌%◌, ◌++◌, take, ap, sym, ◌∙◌, arith}
use Rattle.text.specs.Decimal.{decimal}
use Rattle.text.specs.DecimalLaws.{decimal_one, decimal_more}
use Rattle.text.specs.AppendLaws.{cut_two}
use Rattle.text.proofs.+append_number.Goals as goal

pub returns-then-n-lt10 : goal.returns-then-n-lt10
returns-then-n-lt10 g t c =
    c.append_byte.ensures
    ∙ ap (λ (d : List ℕ). take g.row.N (c.args.text.now.items ++ d)) (sym (decimal_one c.args.n (omega (arith, c.if-n-lt10.true))))

pub returns-else-n-lt10 : goal.returns-else-n-lt10
returns-else-n-lt10 g t c =
    let n = c.args.n in
    let x = c.args.text.now.items in
    let last : List ℕ = (48 + n % 10) ∷ [] in
    c.append_byte-else-n-lt10.ensures
    ∙ ap (λ (z : List ℕ). take g.row.N (z ++ last)) c.append_number.ensures
    ∙ cut_two g.row.N x (decimal (n / 10)) last
    ∙ ap (λ (d : List ℕ). take g.row.N (x ++ d)) (sym (decimal_more n (omega (arith, c.if-n-lt10.false)) (omega arith)))
