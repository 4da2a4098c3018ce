-- Each return is what `judged` says of the reading, the comparison and the check that led there.
use Rattle.std.specs.Prelude.{Option, Ok, ◌≡◌}
use Rattle.std.proofs.Common.{sym, ap, ◌∙◌}
use Rattle.machine.specs.declared.Verdict.{Verdict}
use Rattle.machine.specs.Refusals.{Answer, pass_on}
use Rattle.machine.proofs.Passing.{passed_on}
use Rattle.codec.specs.AnswersLaws.{read_taken, read_refused}
use Rattle.chain.specs.Walking.{judged}
use Rattle.chain.specs.WalkingLaws.{judged_refused, judged_unlike, judged_said}
use Rattle.chain.proofs.Walk.judged.Goals as goal
use Rattle.chain.proofs.Walk.judged.Goals.{After-table_verdict}

pub returns-in_err-has_table : goal.returns-in_err-has_table
returns-in_err-has_table c =
    passed_on c.from_residual.ensures ∙ sym (judged_refused _ _ (read_refused _ c.read_file-show.ensures.answer c.in_err-has_table.was))

pub returns-then-not-follows : goal.returns-then-not-follows
returns-then-not-follows c =
    sym (judged_unlike _ _ (read_taken _ c.read_file-show.ensures.answer c.in_ok-has_table.was) (sym c.follows-follows.ensures ∙ c.if-not-follows.true))

-- what is said of the table is said of the file
said : (c : After-table_verdict) {v : Answer (Option Verdict)} → c.table_verdict.result ≡ v
    → judged c.args.self.now c.args.bytes.now ≡ pass_on v (λ v. Ok (c.read_file-show.result.pair, v))
said c e =
    let r = c.read_file-show.ensures in
    judged_said _ _ (read_taken _ r.answer c.in_ok-has_table.was) (sym c.follows-follows.ensures ∙ c.if-not-follows.false) r.content c.table_verdict.ensures
    ∙ ap (λ (v : Answer (Option Verdict)). pass_on v (λ v. Ok (c.read_file-show.result.pair, v))) e

pub returns-in_err-said : goal.returns-in_err-said
unfolding pass_on
returns-in_err-said c =
    passed_on c.from_residual-in_err-said.ensures ∙ sym (said (goal.at.returns-in_err-said c).After-table_verdict c.in_err-said.was)

pub returns : goal.returns
unfolding pass_on
returns c = sym (said (goal.at.returns c).After-table_verdict c.in_ok-said.was)
