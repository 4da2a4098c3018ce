-- Laws of what is said of a file: Carried exactly if the walk has not ended and has fewer than sixteen files, and the file is read and carried and
-- follows; and what an end says, the walk holds.
use Rattle.std.specs.Prelude.{refl, true, cond, List, ◌≡◌, ℕ, ◌+◌, ◌<◌, ◌≤◌, ◌⊎◌, ltb, replicate, Err, Ok, None, Option, Some}
use Rattle.std.proofs.Math.Path.{ap}
use Rattle.std.proofs.Math.Logic.{⊎_elim, by_cases, inl, inr}
use Rattle.std.proofs.Math.Decide.{dec_lt}
use Rattle.std.proofs.Common.{sym, ◌∙◌, arith, ltb-true, eqb-true}
use Rattle.std.proofs.lemmas.Bool.Decides.{Decides-eqb}
use Rattle.mask.specs.LogicLaws.{cond_cases, or_e, or_r, and_l, and_r, and_i}
use Rattle.machine.specs.declared.Pair.{Pair}
use Rattle.machine.specs.declared.Refusal.TheVariants.{UnlikeLast, TooManyFiles}
use Rattle.machine.specs.declared.Verdict.{Verdict}
use Rattle.machine.specs.declared.Verdict.TheVariants.{Carried, NotCarried}
use Rattle.machine.specs.Refusals.{Answer, valid, pass_on}
use Rattle.machine.specs.RefusalsLaws.{answer_is, valid_if, then_answer, pass_answer}
use Rattle.machine.specs.SameMachineLaws.{machines_same}
use Rattle.machine.specs.Table.{table_room}
use Rattle.machine.specs.Verdict.{check_verdict}
use Rattle.codec.specs.Reader.{Taken, taken, read_answer}
use Rattle.codec.specs.Outcomes.{table_in, outcome_after}
use Rattle.codec.specs.OutcomesLaws.{after_taken, said_after}
use Rattle.chain.specs.declared.Walk.{Walk}
use Rattle.chain.specs.declared.End.{End}
use Rattle.chain.specs.declared.Said.{Said}
use Rattle.chain.specs.declared.Reason.{Reason}
use Rattle.chain.specs.Statements.{CarriedFile}
use Rattle.chain.specs.Walking.{most_files, follows, judged_after, judged, ends, after_judging, step_by, step}
use Rattle.chain.specs.WalkingLaws.{judged_said, step_next, step_full}

-- ---- what follows
module _ (w : Walk) (p : Pair) where
  pub follows_of : p.concrete ≡ w.last → p.hidden ≡ w.hidden → follows w p ≡ true
  unfolding follows
  follows_of e h = or_r _ (and_i ((machines_same _ _).1 e) ((Decides-eqb _ _).1 h))

  pub follows_at : follows w p ≡ true → (w.place ≡ 0 → ⊥) → (p.concrete ≡ w.last) × (p.hidden ≡ w.hidden)
  unfolding follows
  follows_at t later = ⊎_elim (λ e. absurd (later (eqb-true _ _ e)))
      (λ u. ((machines_same _ _).0 (and_l _ _ u), (Decides-eqb _ _).0 (and_r _ _ u))) (or_e t)

-- ---- Carried is not said of an end
pub not_ended : {e : End} {n : ℕ} → Said.Ended e ≡ Said.Carried n → ⊥
not_ended e = let z : ◌≡◌ {A = ℕ} 0 1 = cc in omega arith

module _ (w : Walk) (f : List ℕ) where
  -- the file is read and carried and follows, and the walk is to take one
  pub record Carries (p : Pair) (n : ℕ) : Type 0 where
    pub going : w.ended ≡ None
    pub below : w.place < most_files
    pub file : CarriedFile f p n
    pub next : follows w p ≡ true

  -- the walk after it
  abbrev pub moved : Pair → Walk
  moved p = record { last = p.abstraction; hidden = p.hidden; place = w.place + 1; ended = None }

  pub carries_step : {p : Pair} {n : ℕ} → Carries p n → step w f ≡ (moved p, Said.Carried n)
  unfolding after_judging pass_on
  carries_step {p} {n} c =
      step_next w f c.going c.below
      ∙ ap (after_judging w) (judged_said w f c.file.reads c.next refl refl
      ∙ ap (λ (v : Answer (Option Verdict)). pass_on v (λ v. Ok (p, v))) (after_taken check_verdict (table_in f) p (sym c.file.carried)))

  -- ---- back
  -- of a file that was read
  after_back : (t : Taken) {p : Pair} {n : ℕ} → judged_after w (table_in f) t ≡ Ok (p, Some (Carried n))
      → (t ≡ taken p true) × (check_verdict p (table_in f) ≡ Ok (Carried n)) × (follows w p ≡ true)
  unfolding judged_after
  after_back (taken q note) {p} {n} e =
      let a = then_answer (cond (follows w q) valid (Err UnlikeLast)) _ e in
      let b = pass_answer (outcome_after check_verdict (table_in f) (taken q note)) _ a.1 in
      let same : ◌≡◌ {A = Pair × Option Verdict} (q, b.0) (p, Some (Carried n)) = answer_is b.2 in
      let is : q ≡ p = ap (λ (x : Pair × Option Verdict). x.0) same in
      let s = said_after check_verdict f (taken q note) (b.1 ∙ ap (λ (x : Pair × Option Verdict). Ok x.1) same) in
      let read : q ≡ s.0 = cc in
      let one : s.0 ≡ p = sym read ∙ is in (
        s.1 ∙ ap (λ (x : Pair). taken x true) one,
        ap (λ (x : Pair). check_verdict x (table_in f)) (sym one) ∙ s.2,
        ap (follows w) (sym is) ∙ (valid_if (follows w q) valid (UnlikeLast) a.0).0,
      )

  judged_back : {p : Pair} {n : ℕ} → judged w f ≡ Ok (p, Some (Carried n)) → CarriedFile f p n × (follows w p ≡ true)
  unfolding judged
  judged_back e =
      let a = pass_answer (read_answer f (replicate table_room 0)) _ e in
      let b = after_back a.0 a.2 in
      (record { reads = a.1 ∙ ap Ok b.0; carried = b.1 }, b.2)

  judging_back : (a : Answer (Pair × Option Verdict)) {n : ℕ} → (after_judging w a).1 ≡ Said.Carried n → (p : Pair) × (a ≡ Ok (p, Some (Carried n)))
  unfolding after_judging ends
  judging_back (Err r) e = absurd (not_ended e)
  judging_back (Ok (p, None)) e = absurd (not_ended e)
  judging_back (Ok (p, Some (NotCarried c m))) e = absurd (not_ended e)
  judging_back (Ok (p, Some (Carried m))) {n} e = let same : m ≡ n = cc in (p, ap (λ (n : ℕ). Ok (p, Some (Carried n))) same)

  -- of a walk that has ended or not
  abbrev Going : Option End → ℕ → Type 0
  Going o n = (o ≡ None) × (w.place < most_files) × ((p : Pair) × (judged w f ≡ Ok (p, Some (Carried n))))

  going_back : (o : Option End) {n : ℕ} → (step_by o w f).1 ≡ Said.Carried n → Going o n
  unfolding step_by ends
  going_back (Some x) e = absurd (not_ended e)
  going_back None {n} e =
      cond_cases (ltb w.place most_files) (λ (s : Walk × Said). s.1 ≡ Said.Carried n → Going None n) _ _
      (λ t e. (refl, ltb-true _ _ t, judging_back (judged w f) e))
      (λ t e. absurd (not_ended e)) e

  pub step_carries : {n : ℕ} → (step w f).1 ≡ Said.Carried n → (p : Pair) × Carries p n
  unfolding step
  step_carries e =
      let g = going_back w.ended e in
      let j = judged_back g.2.1 in
      (g.2.0, record { going = g.0; below = g.1; file = j.0; next = j.1 })

-- ---- an end
module _ (w : Walk) (f : List ℕ) where
  -- with a file the walk goes on, or ends with that file's number
  abbrev pub Ends : End → Type 0
  Ends e = (step w f ≡ ends w e.file e.reason) × (e.file ≡ w.place + 1)

  abbrev pub GoesOn : Type 0
  GoesOn = (n : ℕ) × ((step w f).1 ≡ Said.Carried n)

  judging_or : (a : Answer (Pair × Option Verdict)) → step w f ≡ after_judging w a → GoesOn ⊎ ((e : End) × Ends e)
  unfolding after_judging
  judging_or (Err r) s = inr (record { file = w.place + 1; reason = Reason.Refused r }, (s, refl))
  judging_or (Ok (p, None)) s = inr (record { file = w.place + 1; reason = Reason.NoTable }, (s, refl))
  judging_or (Ok (p, Some (NotCarried c m))) s = inr (record { file = w.place + 1; reason = Reason.NotCarried c m }, (s, refl))
  judging_or (Ok (p, Some (Carried m))) s = inl (m, ap (λ (x : Walk × Said). x.1) s)

  pub step_or : w.ended ≡ None → w.place ≤ most_files → GoesOn ⊎ ((e : End) × Ends e)
  step_or none few = by_cases (dec_lt w.place most_files)
      (λ h. judging_or (judged w f) (step_next w f none h))
      (λ h. inr (record { file = most_files + 1; reason = Reason.Refused TooManyFiles }, (step_full w f none (omega arith), omega arith)))

-- ---- what a step says that has ended, the walk after it holds
end_is : {d e : End} → Said.Ended d ≡ Said.Ended e → d ≡ e
end_is h = cc

module _ (w : Walk) (f : List ℕ) {e : End} where
  judging_ended : (a : Answer (Pair × Option Verdict)) → (after_judging w a).1 ≡ Said.Ended e → (after_judging w a).0.ended ≡ Some e
  unfolding after_judging ends
  judging_ended (Err r) h = ap Some (end_is h)
  judging_ended (Ok (p, None)) h = ap Some (end_is h)
  judging_ended (Ok (p, Some (NotCarried c m))) h = ap Some (end_is h)
  judging_ended (Ok (p, Some (Carried m))) h = absurd (not_ended (sym h))

  by_ended : (o : Option End) → w.ended ≡ o → (step_by o w f).1 ≡ Said.Ended e → (step_by o w f).0.ended ≡ Some e
  unfolding step_by ends
  by_ended (Some x) o h = o ∙ ap Some (end_is h)
  by_ended None o h =
      cond_cases (ltb w.place most_files) (λ (s : Walk × Said). s.1 ≡ Said.Ended e → s.0.ended ≡ Some e) _ _
      (λ t h. judging_ended (judged w f) h)
      (λ t h. ap Some (end_is h)) h

  pub ended_step : (step w f).1 ≡ Said.Ended e → (step w f).0.ended ≡ Some e
  unfolding step
  ended_step h = by_ended w.ended refl h
