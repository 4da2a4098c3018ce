-- Both answers are that of the definition, by the contracts of check and plain reading.
use Rattle.std.proofs.Common.{arith}
use Rattle.std.proofs.lemmas.Grind.{common_steps}
use Rattle.mask.specs.Logic.{and}
use Rattle.comparison.specs.AnswersLaws.{check_parts}
use Rattle.comparison.specs.TablesLaws.{passing_tally, refused_tally}
use Rattle.comparison.proofs.EqualLaws.{checked_told}
use Rattle.comparison.proofs.tables.compare_table.Goals as goal

pub returns-after-agrees : goal.returns-after-agrees
unfolding and
returns-after-agrees c =
    let own = c.check_table-answer.ensures in
    let other = c.plain_verdict.ensures in
    passing_tally _ _ _ _ (check_parts _ _ _ own.verdict own.empty) (check_parts _ _ _ other.verdict other.empty) (checked_told _ _ c.eq-agrees.ensures) c.in-Ok.is (grind (arith, common_steps)) (rw c.is_carried.ensures at c.of_table.ensures)

pub returns-in-Err : goal.returns-in-Err
returns-in-Err c =
    let own = c.check_table-answer.ensures in
    let other = c.plain_verdict.ensures in
    refused_tally _ _ _ _ (check_parts _ _ _ own.verdict own.empty) (check_parts _ _ _ other.verdict other.empty) (checked_told _ _ c.eq-agrees.ensures) c.in-Err.is c.of_table-in-Err.ensures
