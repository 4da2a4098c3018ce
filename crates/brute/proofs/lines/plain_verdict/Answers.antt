-- The tests are made in the order of the definition, and each return is the first that fails.
use Rattle.std.proofs.Common.{ap, sym, ◌∙◌}
use Rattle.std.specs.Prelude.{Ok}
use Rattle.machine.proofs.Passing.{passed_on}
use Rattle.machine.specs.WellFormedLaws.{valid_is_well}
use Rattle.machine.specs.Verdict.{empty_set_of, verdict_of}
use Rattle.machine.specs.VerdictLaws.{check_fails, check_invalid, check_passes, check_short, empty_told_beside, empty_told_refused}
use Rattle.brute.proofs.lines.plain_verdict.Goals as goal

pub returns-then-table-lt-TABLE_ROOM : goal.returns-then-table-lt-TABLE_ROOM
unfolding verdict_of empty_set_of
returns-then-table-lt-TABLE_ROOM c =
    let x = c.args in
    let said = check_short x.p x.table.now c.if-table-lt-TABLE_ROOM.true in
    record { verdict = sym said; empty = sym (empty_told_refused x.p x.table.now said) }

pub returns-in_err-validity : goal.returns-in_err-validity
unfolding verdict_of empty_set_of
returns-in_err-validity c =
    let x = c.args in
    let said = check_invalid x.p x.table.now c.if-table-lt-TABLE_ROOM.false _ (sym c.validity.ensures ∙ c.in_err-validity.was) in
    record {
      verdict = ap verdict_of (passed_on c.from_residual.ensures) ∙ sym said;
      empty = ap empty_set_of (passed_on c.from_residual.ensures) ∙ sym (empty_told_refused x.p x.table.now said);
    }

pub invariant_of-tabled : goal.invariant_of-tabled
invariant_of-tabled c = record { well = valid_is_well _ (sym c.validity.ensures ∙ c.in_ok-validity.was) }

pub returns-in_err-lines : goal.returns-in_err-lines
unfolding verdict_of empty_set_of
returns-in_err-lines c =
    let x = c.args in
    let said = check_fails x.p x.table.now c.if-table-lt-TABLE_ROOM.false _ (sym c.validity.ensures ∙ c.in_ok-validity.was) (sym c.lines.ensures ∙ c.in_err-lines.was) in
    record {
      verdict = ap verdict_of (passed_on c.from_residual-in_err-lines.ensures) ∙ sym said;
      empty = ap empty_set_of (passed_on c.from_residual-in_err-lines.ensures) ∙ sym (empty_told_refused x.p x.table.now said);
    }

pub returns : goal.returns
unfolding verdict_of empty_set_of
returns c =
    let x = c.args in
    let made = c.start_checked.ensures in
    let said = check_passes x.p x.table.now c.if-table-lt-TABLE_ROOM.false (sym c.validity.ensures ∙ c.in_ok-validity.was) (sym c.lines.ensures ∙ c.in_ok-lines.was) in
    record { verdict = ap Ok made.verdict ∙ sym said; empty = made.empty ∙ sym (empty_told_beside x.p x.table.now said) }
