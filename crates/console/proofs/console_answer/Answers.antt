-- Each case has the number of what is said of the file; NotCarried names a state below 64, so that its number fits.
use mathlib.Core.Path.{◌≡◌, sym, ap, ◌∙◌}
use Prim.Native.Nat.{◌<◌}
use native.Mathlib.Omega.{arith}
use Rattle.std.specs.Prelude.{Option, Ok, Some}
use Rattle.machine.specs.declared.Verdict.{Verdict}
use Rattle.machine.specs.Refusals.{Answer}
use Rattle.machine.specs.Verdict.{verdict_number}
use Rattle.verdict.specs.Outcomes.{file_outcome, outcome_number}
use Rattle.verdict.specs.OutcomesLaws.{file_low}
use Rattle.console.proofs.console_answer.Goals as goal
use Rattle.console.proofs.console_answer.Goals.{After-file_verdict, In-Ok-Some-NotCarried}

-- the number of what was answered is that of what is said of the file
number : (c : After-file_verdict) (v : Answer (Option Verdict)) → c.file_verdict.result ≡ v → outcome_number v ≡ outcome_number (file_outcome c.args.bytes.now)
number c v e = ap outcome_number (sym e ∙ c.file_verdict.ensures)

-- the state that NotCarried names
low : (c : In-Ok-Some-NotCarried) → c.in-Ok-Some-NotCarried.lacking < 64
low c =
    let n = c.in-Ok-Some-NotCarried in
    file_low _ _ _ (sym c.file_verdict.ensures ∙ n.is ∙ ap Ok (n.field-0-is ∙ ap Some n.field-0-0-is))

pub overflow_cast-result : goal.overflow_cast-result
overflow_cast-result c = omega (arith, low (goal.at.overflow_cast-result c).In-Ok-Some-NotCarried)

pub overflow_add-result : goal.overflow_add-result
overflow_add-result c = omega (arith, low (goal.at.overflow_add-result c).In-Ok-Some-NotCarried)

pub returns-in-Ok-Some-Carried : goal.returns-in-Ok-Some-Carried
unfolding outcome_number verdict_number
returns-in-Ok-Some-Carried c =
    let n = c.in-Ok-Some-Carried in
    number (goal.at.returns-in-Ok-Some-Carried c).After-file_verdict _ (n.is ∙ ap Ok (n.field-0-is ∙ ap Some n.field-0-0-is))

pub returns-in-Ok-Some-NotCarried : goal.returns-in-Ok-Some-NotCarried
unfolding outcome_number verdict_number
returns-in-Ok-Some-NotCarried c =
    let n = c.in-Ok-Some-NotCarried in
    number (goal.at.returns-in-Ok-Some-NotCarried c).After-file_verdict _ (n.is ∙ ap Ok (n.field-0-is ∙ ap Some n.field-0-0-is))

pub returns-in-Ok-None : goal.returns-in-Ok-None
unfolding outcome_number
returns-in-Ok-None c = let n = c.in-Ok-None in number (goal.at.returns-in-Ok-None c).After-file_verdict _ (n.is ∙ ap Ok n.field-0-is)

pub returns-in-Err : goal.returns-in-Err
unfolding outcome_number
returns-in-Err c = c.number.ensures ∙ number (goal.at.returns-in-Err c).After-file_verdict _ c.in-Err.is
