-- A refusal leaves the table as it was, and otherwise its front is the solver's table.
use Rattle.std.proofs.Common.{sym, ◌∙◌}
use Rattle.machine.proofs.Passing.{passed_on}
use Rattle.solver.specs.SolverLaws.{solve_passed, solved_refused, solved_valid}
use Rattle.solver.proofs.solve.Goals as goal

pub returns-in_err-tests : goal.returns-in_err-tests
returns-in_err-tests c =
    let s = c.args in
    let e = sym c.tests.ensures ∙ c.in_err-tests.was in
    record { answer = passed_on c.from_residual.ensures ∙ sym e; content = solved_refused s.p s.table.now _ e }

pub invariant_of-formed : goal.invariant_of-formed
invariant_of-formed c = record { well = (solve_passed c.args.p _ (sym c.tests.ensures ∙ c.in_ok-tests.was)).0 }

pub rank_all-requires : goal.rank_all-requires
rank_all-requires c = (solve_passed c.args.p _ (sym c.tests.ensures ∙ c.in_ok-tests.was)).1

pub returns : goal.returns
returns c =
    let s = c.args in
    let e = sym c.tests.ensures ∙ c.in_ok-tests.was in
    record { answer = sym e; content = (rw c.new-game.ensures at c.rank_all.ensures) ∙ solved_valid s.p s.table.now e }
