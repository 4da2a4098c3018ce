-- Laws of the text of a machine of a file: by what the reader says, what is answered and what is left in the buffer.
use Rattle.std.specs.Prelude.{List, ◌++◌, ◌≡◌, ℕ, ◌≤◌, ◌<◌, eqb, length, Err, Ok}
use Rattle.std.proofs.Math.Path.{sym, ap}
use Rattle.std.proofs.Common.{◌∙◌, arith, lt-ltb, le-ltb}
use Rattle.std.proofs.Math.ListN.{drop}
use Rattle.mask.specs.LogicLaws.{cond_cases}
use Rattle.machine.specs.declared.Machine.{Machine}
use Rattle.machine.specs.declared.Pair.{Pair}
use Rattle.machine.specs.declared.Refusal.{Refusal}
use Rattle.machine.specs.Refusals.{valid, Answer}
use Rattle.machine.specs.RefusalsLaws.{then_of, then_refused, then_answer, given_at, buffer_valid, buffer_short, buffer_made, buffer_kept}
use Rattle.machine.specs.WellFormed.{machine_validity}
use Rattle.machine.specs.WellFormedLaws.{both_valid}
use Rattle.machine.specs.Table.{table_room}
use Rattle.codec.specs.Reader.{pair_of, read_validity}
use Rattle.codec.proofs.FileLaws.{read_well}
use Rattle.hanoi.specs.Text.{text_room, hoa_text, text_answer, text_buffer}
use Rattle.hanoi.proofs.CallLaws.{text_given, text_left}
use Rattle.hanoi.proofs.Theorems.{text_fits}
use Rattle.export.specs.Exporting.{machine_in, which_validity, export_validity, export_answer, export_buffer}
use Rattle.machine.specs.declared.Refusal.TheVariants.{OutOfRange, ShortBuffer}

-- ---- which machine it is
module _ (f : List ℕ) where
  pub first_machine : {p : Pair} (which : ℕ) → which ≡ 0 → p ≡ pair_of f → p.concrete ≡ machine_in f which
  unfolding machine_in
  first_machine which e same = ap (λ (q : Pair). q.concrete) same ∙ ap (machine_in f) (sym e)

  pub second_machine : {p : Pair} (which : ℕ) → which ≡ 1 → p ≡ pair_of f → p.abstraction ≡ machine_in f which
  unfolding machine_in
  second_machine which e same = ap (λ (q : Pair). q.abstraction) same ∙ ap (machine_in f) (sym e)

  -- one that was read is well formed
  machine_valid : (which : ℕ) → read_validity f table_room ≡ valid → machine_validity 8 (machine_in f which) ≡ valid
  unfolding machine_in
  machine_valid which e =
      let both = both_valid (pair_of f) (read_well f table_room e) in
      cond_cases (eqb which 0) (λ m. machine_validity 8 m ≡ valid) _ _ (λ t. both.0) (λ t. both.1)

-- ---- the tests decide the answer and the buffer
module _ (f : List ℕ) (which : ℕ) (buffer : List ℕ) where
  abbrev Leaves : Answer ℕ → List ℕ → Type 0
  Leaves said after = (export_answer f which (length buffer) ≡ said) × (export_buffer f which buffer ≡ after)

  stopped : (r : Refusal) → export_validity f which (length buffer) ≡ Err r → Leaves (Err r) buffer
  unfolding export_answer export_buffer
  stopped r e = (then_refused _ _ r e, buffer_kept _ _ buffer e)

  pub export_short : length buffer < text_room → Leaves (Err ShortBuffer) buffer
  unfolding export_validity
  export_short h = stopped _ (then_refused _ _ _ (buffer_short text_room (length buffer) h))

  module _ (h : text_room ≤ length buffer) where
    pub export_unread : {r : Refusal} → read_validity f table_room ≡ Err r → Leaves (Err r) buffer
    unfolding export_validity
    export_unread e = stopped _ (then_of _ _ (buffer_valid text_room (length buffer) h) ∙ then_refused _ _ _ e)

    module _ (read : read_validity f table_room ≡ valid) where
      tests : export_validity f which (length buffer) ≡ which_validity which
      unfolding export_validity
      tests = then_of _ _ (buffer_valid text_room (length buffer) h) ∙ then_of _ _ read

      pub export_neither : 2 ≤ which → Leaves (Err OutOfRange) buffer
      unfolding which_validity
      export_neither l = stopped _ (tests ∙ rw (le-ltb which 2 l))

      -- the machine is well formed, so that its text is written
      pub export_written : (m : Machine) → which < 2 → m ≡ machine_in f which → Leaves (text_answer m (length buffer)) (text_buffer m buffer)
      unfolding which_validity export_answer export_buffer
      export_written m l e =
          let nothing : export_validity f which (length buffer) ≡ valid = tests ∙ rw (lt-ltb which 2 l) in
          let v = ap (machine_validity 8) e ∙ machine_valid f which read in (
            then_of _ _ nothing ∙ ap (λ (x : Machine). Ok (length (hoa_text x))) (sym e) ∙ sym (text_given m buffer h v),
            buffer_made _ _ buffer nothing ∙ ap (λ (x : Machine). hoa_text x ++ drop (length (hoa_text x)) buffer) (sym e) ∙ sym (text_left m buffer h v),
          )

-- a text that is written fits
pub export_small : (f : List ℕ) (which room : ℕ) {n : ℕ} → export_answer f which room ≡ Ok n → n ≤ text_room
unfolding export_answer export_validity
export_small f which room e =
    let a = given_at _ _ e in
    let read = (then_answer _ _ (then_answer _ _ a.0).1).0 in
    omega (arith, a.1, (text_fits (machine_in f which) (machine_valid f which read)).1)
