-- A partner in the row is a predecessor of one of its states.
use Rattle.std.proofs.Common.{◌∙◌, arith, rules, tests}
use Rattle.std.specs.Int.Bits.{bit_or}
use Rattle.rows.specs.RowsLaws.{joined_is}
use Rattle.rows.proofs.partners.Goals as goal

pub returns : goal.returns
returns c = c.fold_rows.ensures bit_or (search (rules, tests)) ∙ joined_is _ _ (λ d. search rules) (omega arith)
