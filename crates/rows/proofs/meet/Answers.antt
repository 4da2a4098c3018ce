-- The meet begins with all states.
use Rattle.std.proofs.Common.{◌≡◌, ◌∙◌, min, ap, arith, rules, tests}
use Rattle.std.specs.Int.Bits.{bit_and}
use Rattle.mask.specs.Bits.{full_mask}
use Rattle.rows.specs.Folds.{fold_rows}
use Rattle.rows.specs.RowsLaws.{met_is}
use Rattle.rows.proofs.meet.Goals as goal

pub returns : goal.returns
returns c =
    let few : min 64 64 ≡ 64 = omega arith in
    c.fold_rows.ensures bit_and (search (rules, tests)) ∙ ap (fold_rows bit_and c.args.rows.now c.args.moves) (c.full.ensures ∙ ap full_mask few) ∙ met_is _ _ (omega arith)
