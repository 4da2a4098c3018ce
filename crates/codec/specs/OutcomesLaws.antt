-- Laws of what a call says of a file, by what the reader says of it.
use Rattle.std.specs.Prelude.{true, false, List, ℕ, replicate, Err, None, Ok, Some}
use Rattle.std.proofs.Math.Path.{◌≡◌, refl, ap}
use Rattle.std.proofs.Common.{sym, ◌∙◌, arith}
use Rattle.machine.specs.declared.Pair.{Pair}
use Rattle.machine.specs.declared.Refusal.{Refusal}
use Rattle.machine.specs.Refusals.{pass_on, Answer}
use Rattle.machine.specs.RefusalsLaws.{pass_of, pass_refused, pass_answer}
use Rattle.machine.specs.Table.{table_room}
use Rattle.codec.specs.Reader.{Taken, taken, read_answer}
use Rattle.codec.specs.Outcomes.{table_in, outcome_after, outcome_by}

-- ---- after reading
module _ {A : Type 0} (call : Pair → List ℕ → Answer A) (T : List ℕ) (p : Pair) where
  pub after_bare : outcome_after call T (taken p false) ≡ Ok None
  unfolding outcome_after
  after_bare = refl

  -- v is what the call says of machines and table
  pub after_taken : {v : Answer A} → v ≡ call p T → outcome_after call T (taken p true) ≡ pass_on v (λ a. Ok (Some a))
  unfolding outcome_after
  after_taken said = ap (λ (v : Answer A). pass_on v (λ a. Ok (Some a))) (sym said)

-- ---- of a file
module _ {A : Type 0} (call : Pair → List ℕ → Answer A) (f : List ℕ) where
  -- what the reader says
  abbrev read : Answer Taken
  read = read_answer f (replicate table_room 0)

  pub outcome_refused : {r : Refusal} → read ≡ Err r → outcome_by call f ≡ Err r
  unfolding outcome_by
  outcome_refused e = pass_refused _ _ e

  -- T is the table that was left
  pub outcome_read : {t : Taken} {T : List ℕ} → read ≡ Ok t → T ≡ table_in f → outcome_by call f ≡ outcome_after call T t
  unfolding outcome_by
  outcome_read {t} e left = pass_of _ _ e ∙ ap (λ (U : List ℕ). outcome_after call U t) (sym left)

  pub outcome_bare : {p : Pair} → read ≡ Ok (taken p false) → outcome_by call f ≡ Ok None
  outcome_bare {p} e = outcome_read e refl ∙ after_bare call _ p

  -- and v what the call says of it
  pub outcome_taken : {p : Pair} {T : List ℕ} {v : Answer A} → read ≡ Ok (taken p true) → T ≡ table_in f → v ≡ call p T
      → outcome_by call f ≡ pass_on v (λ a. Ok (Some a))
  outcome_taken {p} {T} e left said = outcome_read e left ∙ after_taken call T p said

  -- ---- back: what is said is what the call says of the machines and the table that were read
  pub said_after : (t : Taken) {a : A} → outcome_after call (table_in f) t ≡ Ok (Some a) → (p : Pair) × (t ≡ taken p true) × (call p (table_in f) ≡ Ok a)
  unfolding outcome_after
  said_after (taken p true) {a} e =
      let q = pass_answer (call p (table_in f)) _ e in
      let same : q.0 ≡ a = cc in
      (p, refl, q.1 ∙ ap Ok same)
  said_after (taken p false) e = let z : ◌≡◌ {A = ℕ} 0 1 = cc in absurd (omega arith)

  pub outcome_says : {a : A} → outcome_by call f ≡ Ok (Some a) → (p : Pair) × (read ≡ Ok (taken p true)) × (call p (table_in f) ≡ Ok a)
  unfolding outcome_by
  outcome_says e =
      let q = pass_answer read _ e in
      let s = said_after q.0 q.2 in
      (s.0, q.1 ∙ ap Ok s.1, s.2)

  none_after : (t : Taken) → outcome_after call (table_in f) t ≡ Ok None → (p : Pair) × (t ≡ taken p false)
  unfolding outcome_after
  none_after (taken p true) e =
      let q = pass_answer (call p (table_in f)) _ e in
      let z : ◌≡◌ {A = ℕ} 0 1 = cc in
      absurd (omega arith)
  none_after (taken p false) e = (p, refl)

  pub outcome_none : outcome_by call f ≡ Ok None → (p : Pair) × (read ≡ Ok (taken p false))
  unfolding outcome_by
  outcome_none e =
      let q = pass_answer read _ e in
      let s = none_after q.0 q.2 in
      (s.0, q.1 ∙ ap Ok s.1)
