-- Laws of a step: what each of its cases gives.
use Rattle.std.specs.Prelude.{refl, Bool, true, false, List, ◌≡◌, ℕ, ◌+◌, ◌≤◌, ◌<◌, eqb, replicate, Err, Ok, None, Option, Some}
use Rattle.std.proofs.Math.Path.{ap}
use Rattle.std.proofs.Common.{sym, ◌∙◌, lt-ltb, le-ltb}
use Rattle.mask.specs.Logic.{and, or}
use Rattle.machine.specs.declared.Pair.{Pair}
use Rattle.machine.specs.declared.Refusal.{Refusal}
use Rattle.machine.specs.declared.Refusal.TheVariants.{UnlikeLast, TooManyFiles}
use Rattle.machine.specs.declared.Verdict.{Verdict}
use Rattle.machine.specs.Machines.{same_machine}
use Rattle.machine.specs.Refusals.{Answer, pass_on}
use Rattle.machine.specs.RefusalsLaws.{then_of, then_refused, pass_of, pass_refused}
use Rattle.machine.specs.Table.{table_room}
use Rattle.machine.specs.Verdict.{check_verdict}
use Rattle.codec.specs.Reader.{Taken, taken, read_answer}
use Rattle.codec.specs.Outcomes.{table_in, outcome_after}
use Rattle.chain.specs.declared.Walk.{Walk}
use Rattle.chain.specs.declared.End.{End}
use Rattle.chain.specs.declared.Said.{Said}
use Rattle.chain.specs.declared.Reason.{Reason}
use Rattle.chain.specs.Walking.{most_files, follows, judged_after, judged, ends, after_judging, step_by, step}

-- ---- what may come next
module _ (w : Walk) (p : Pair) where
  pub follows_first : w.place ≡ 0 → follows w p ≡ true
  unfolding follows or
  follows_first e = let z : eqb w.place 0 ≡ true = rw e refl in rw z refl

  pub follows_later : eqb w.place 0 ≡ false → follows w p ≡ and (same_machine p.concrete w.last) (eqb p.hidden w.hidden)
  unfolding follows or
  follows_later e = rw e refl

-- ---- a file
module _ (w : Walk) (f : List ℕ) where
  abbrev read : Answer Taken
  read = read_answer f (replicate table_room 0)

  pub judged_refused : {r : Refusal} → read ≡ Err r → judged w f ≡ Err r
  unfolding judged
  judged_refused e = pass_refused _ _ e

  module _ {p : Pair} {note : Bool} (e : read ≡ Ok (taken p note)) where
    pub judged_unlike : follows w p ≡ false → judged w f ≡ Err UnlikeLast
    unfolding judged judged_after
    judged_unlike g = pass_of _ _ e ∙ then_refused _ _ UnlikeLast (rw g refl)

    -- T is the table that was left, and v what is said of it
    pub judged_said : follows w p ≡ true → {T : List ℕ} → T ≡ table_in f → {v : Answer (Option Verdict)} → v ≡ outcome_after check_verdict T (taken p note)
        → judged w f ≡ pass_on v (λ v. Ok (p, v))
    unfolding judged judged_after
    judged_said g {T} left {v} said =
        pass_of _ _ e ∙ then_of _ _ (rw g refl)
        ∙ ap (λ (v : Answer (Option Verdict)). pass_on v (λ v. Ok (p, v))) (sym (said ∙ ap (λ (T : List ℕ). outcome_after check_verdict T (taken p note)) left))

-- ---- a step
module _ (w : Walk) (f : List ℕ) where
  pub step_ended : {e : End} → w.ended ≡ Some e → step w f ≡ (w, Said.Ended e)
  unfolding step step_by
  step_ended e = rw e refl

  module _ (none : w.ended ≡ None) where
    pub step_full : most_files ≤ w.place → step w f ≡ ends w (most_files + 1) (Reason.Refused TooManyFiles)
    unfolding step step_by
    step_full h = rw (none, le-ltb w.place most_files h) refl

    pub step_next : w.place < most_files → step w f ≡ after_judging w (judged w f)
    unfolding step step_by
    step_next h = rw (none, lt-ltb w.place most_files h) refl
