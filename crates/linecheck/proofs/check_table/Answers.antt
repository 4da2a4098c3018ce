-- The tests are made in the order of the definition, and each return is the first that refuses, or the answer.
use mathlib.Core.Path.{sym, ap, ◌∙◌}
use native.Mathlib.Omega.{arith}
use Rattle.machine.specs.Refusals.{refused}
use Rattle.machine.specs.RefusalsLaws.{tested-valid, tested-refused}
use Rattle.machine.specs.VerdictLaws.{check-short, check-invalid, check-fails, check-passes, empty-told-refused, empty-told-beside}
use Rattle.machine.specs.WellFormedLaws.{valid-is-well}
use Rattle.linecheck.specs.Answers.{verdictOf, emptySetOf}
use Rattle.linecheck.proofs.check_table.Goals as goal

pub returns-then-table-lt-TABLE_ROOM : goal.returns-then-table-lt-TABLE_ROOM
unfolding verdictOf emptySetOf
returns-then-table-lt-TABLE_ROOM c =
    let x = c.args in
    let said = check-short x.p x.table.now c.if-table-lt-TABLE_ROOM.true in
    record { verdict = ap refused c.refuse.ensures ∙ sym said; empty = sym (empty-told-refused x.p x.table.now said) }

pub returns-in-Refused : goal.returns-in-Refused
unfolding verdictOf emptySetOf
returns-in-Refused c =
    let x = c.args in
    let said = check-invalid x.p x.table.now (omega arith) _ (tested-refused c.pair_validity-valid.ensures c.in-Refused.is) in
    record { verdict = sym said; empty = sym (empty-told-refused x.p x.table.now said) }

pub lines_validity-lines-requires : goal.lines_validity-lines-requires
lines_validity-lines-requires c = (valid-is-well c.args.p (tested-valid c.pair_validity-valid.ensures c.in_default.is), (c.matched_masks.ensures, omega arith))

pub returns-in-Refused-lines : goal.returns-in-Refused-lines
unfolding verdictOf emptySetOf
returns-in-Refused-lines c =
    let x = c.args in
    let said = check-fails x.p x.table.now (omega arith) _ (tested-valid c.pair_validity-valid.ensures c.in_default.is) (tested-refused c.lines_validity-lines.ensures c.in-Refused-lines.is) in
    record { verdict = sym said; empty = sym (empty-told-refused x.p x.table.now said) }

pub verdict_of_starts-requires : goal.verdict_of_starts-requires
verdict_of_starts-requires c = (valid-is-well c.args.p (tested-valid c.pair_validity-valid.ensures c.in_default.is), omega arith)

pub returns : goal.returns
returns c =
    let x = c.args in
    let made = c.verdict_of_starts.ensures in
    let said = check-passes x.p x.table.now (omega arith) (tested-valid c.pair_validity-valid.ensures c.in_default.is) (tested-valid c.lines_validity-lines.ensures c.in_default-lines.is) in
    record { verdict = made.verdict ∙ sym said; empty = made.empty ∙ sym (empty-told-beside x.p x.table.now said) }
