-- Each return is what `step` says of its case.
use Rattle.std.specs.Prelude.{Option, Some, Ok, ◌≡◌}
use Rattle.std.proofs.Common.{sym, ap, ◌∙◌}
use Rattle.machine.specs.declared.Pair.{Pair}
use Rattle.machine.specs.declared.Verdict.{Verdict}
use Rattle.machine.specs.Refusals.{Answer}
use Rattle.chain.specs.Walking.{after_judging, step}
use Rattle.chain.specs.WalkingLaws.{step_ended, step_full, step_next}
use Rattle.chain.proofs.Walk.step.Goals as goal
use Rattle.chain.proofs.Walk.step.Goals.{After-judged}

pub returns-in-Some : goal.returns-in-Some
returns-in-Some c = sym (step_ended _ _ c.in-Some.is)

pub returns-then-self-ge-MOST_FILES : goal.returns-then-self-ge-MOST_FILES
returns-then-self-ge-MOST_FILES c = c.ends.ensures ∙ sym (step_full _ _ c.in_default.is c.if-self-ge-MOST_FILES.true)

-- an unended walk that is not full goes on by what is said of the file
next : (c : After-judged) {a : Answer (Pair × Option Verdict)} → c.judged.result ≡ a → step c.args.self c.args.bytes.now ≡ after_judging c.args.self a
next c e = step_next _ _ c.in_default.is c.if-self-ge-MOST_FILES.false ∙ ap (after_judging c.args.self) (sym c.judged.ensures ∙ e)

pub returns-in-Err : goal.returns-in-Err
unfolding after_judging
returns-in-Err c = c.ends-in-Err.ensures ∙ sym (next (goal.at.returns-in-Err c).After-judged c.in-Err.is)

-- a file that was read and checked, with what is said of it
judged : (c : After-judged) {p : Pair} {v u : Option Verdict} → c.judged.result ≡ Ok (p, v) → v ≡ u
    → step c.args.self c.args.bytes.now ≡ after_judging c.args.self (Ok (p, u))
judged c {p} e is = next c (e ∙ ap (λ (u : Option Verdict). Ok (p, u)) is)

pub returns-in-Ok-default-None : goal.returns-in-Ok-default-None
unfolding after_judging
returns-in-Ok-default-None c =
    let w = c.in-Ok-default-None in
    c.ends-in-Ok-default-None.ensures ∙ sym (judged (goal.at.returns-in-Ok-default-None c).After-judged w.is w.field-0-1-is)

pub returns-in-Ok-default-Some-NotCarried : goal.returns-in-Ok-default-Some-NotCarried
unfolding after_judging
returns-in-Ok-default-Some-NotCarried c =
    let w = c.in-Ok-default-Some-NotCarried in
    c.ends-in-Ok-default-Some-NotCarried.ensures
    ∙ sym (judged (goal.at.returns-in-Ok-default-Some-NotCarried c).After-judged w.is (w.field-0-1-is ∙ ap Some w.field-0-1-0-is))

pub returns-in-Ok-default-Some-Carried : goal.returns-in-Ok-default-Some-Carried
unfolding after_judging
returns-in-Ok-default-Some-Carried c =
    let w = c.in-Ok-default-Some-Carried in
    sym (judged (goal.at.returns-in-Ok-default-Some-Carried c).After-judged w.is (w.field-0-1-is ∙ ap Some w.field-0-1-0-is))
