-- A refusal leaves family and table as they were, and otherwise they are the turn's.
use Rattle.std.proofs.Common.{sym, ◌∙◌}
use Rattle.machine.proofs.Passing.{passed_on}
use Rattle.solver.specs.SolverLaws.{solve_passed, turned_refused, turned_valid}
use Rattle.solver.proofs.turn_family.Goals as goal

pub returns-in_err-tests : goal.returns-in_err-tests
returns-in_err-tests c =
    let s = c.args in
    let e = sym c.tests.ensures ∙ c.in_err-tests.was in
    let kept = turned_refused s.p s.family.now s.table.now _ e in
    record { answer = passed_on c.from_residual.ensures ∙ sym e; family = kept.0; content = kept.1 }

pub invariant_of-formed : goal.invariant_of-formed
invariant_of-formed c = record { well = (solve_passed c.args.p _ (sym c.tests.ensures ∙ c.in_ok-tests.was)).0 }

pub turn-requires : goal.turn-requires
turn-requires c = (solve_passed c.args.p _ (sym c.tests.ensures ∙ c.in_ok-tests.was)).1

pub returns : goal.returns
returns c =
    let s = c.args in
    let e = sym c.tests.ensures ∙ c.in_ok-tests.was in
    let made = turned_valid s.p s.family.now s.table.now e in
    let turned = rw c.new-game.ensures at c.turn.ensures in
    record { answer = sym e; family = turned.0 ∙ made.0; content = turned.1 ∙ made.1 }
