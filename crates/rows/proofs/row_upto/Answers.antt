-- The row has at most 64 entries, so that none is left out.
use Rattle.std.proofs.Common.{◌≡◌, ◌∙◌, ℕ, Bool, ap, arith, rules, tests, length, get_or, min}
use Rattle.std.specs.Prelude.{leb}
use Rattle.mask.specs.Tables.{mask_of}
use Rattle.rows.specs.Entries.{row_upto}
use Rattle.rows.proofs.row_upto.Goals as goal

pub returns : goal.returns
unfolding row_upto
returns c =
    let row = c.args.row.now in
    let few : min (length row) 64 ≡ length row = omega (arith, c.requires) in
    let low : ℕ → Bool = λ a. leb (get_or row a 0) c.args.bound in
    c.those.ensures low (search (rules, tests)) ∙ ap (λ (n : ℕ). mask_of n low) few
