-- Laws of the call: by its tests, what is answered and what is left in the lent buffer.
use mathlib.Core.List.{List, [], ◌++◌, flatten}
use Rattle.std.specs.Prelude.{◌≡◌, ℕ, ◌≤◌, ◌<◌, length, take, drop, Err, Ok}
use Rattle.std.proofs.Common.{sym, ap, ap₂, ◌∙◌, arith, take_all}
use Rattle.machine.specs.declared.Machine.{Machine}
use Rattle.machine.specs.declared.Refusal.{Refusal}
use Rattle.machine.specs.Refusals.{valid}
use Rattle.machine.specs.RefusalsLaws.{then_of, then_refused, buffer_valid, buffer_short, buffer_made, buffer_kept}
use Rattle.machine.specs.WellFormed.{machine_validity}
use Rattle.machine.specs.WellFormedLaws.{WellMachine}
use Rattle.hanoi.specs.Text.{text_room, hoa_text, text_validity, text_answer, text_buffer}
use Rattle.hanoi.specs.Parts.{text_parts}
use Rattle.hanoi.proofs.TextLaws.{text_parts_lem}
use Rattle.hanoi.proofs.FitsLaws.{text_most}
use Rattle.machine.specs.declared.Refusal.TheVariants.{ShortBuffer}

-- a well-formed machine's text is shorter than the room, so that nothing is cut
pub text_whole : (m : Machine) → WellMachine 8 m → {x y : List ℕ} → x ≡ [] → y ≡ take 20000 (x ++ flatten (text_parts m)) → y ≡ hoa_text m
text_whole m w e f =
    f ∙ ap (λ (v : List ℕ). take 20000 (v ++ flatten (text_parts m))) e ∙ ap (take 20000) (sym (text_parts_lem m (omega (arith, w.sets_high))))
    ∙ take_all 20000 (hoa_text m) (omega (arith, text_most m w))

module _ (m : Machine) (buffer : List ℕ) where
  stopped : (r : Refusal) → text_validity m (length buffer) ≡ Err r → (text_answer m (length buffer) ≡ Err r) × (text_buffer m buffer ≡ buffer)
  unfolding text_answer text_buffer
  stopped r e = (then_refused _ _ r e, buffer_kept _ _ buffer e)

  pub text_short : length buffer < text_room → (text_answer m (length buffer) ≡ Err ShortBuffer) × (text_buffer m buffer ≡ buffer)
  unfolding text_validity
  text_short h = stopped _ (then_refused _ _ _ (buffer_short text_room (length buffer) h))

  pub text_stopped : {r : Refusal} → text_room ≤ length buffer → machine_validity 8 m ≡ Err r
      → (text_answer m (length buffer) ≡ Err r) × (text_buffer m buffer ≡ buffer)
  unfolding text_validity
  text_stopped h e = stopped _ (then_of _ _ (buffer_valid text_room (length buffer) h) ∙ e)

  module _ (h : text_room ≤ length buffer) (e : machine_validity 8 m ≡ valid) where
    tests : text_validity m (length buffer) ≡ valid
    unfolding text_validity
    tests = then_of _ _ (buffer_valid text_room (length buffer) h) ∙ e

    pub text_given : text_answer m (length buffer) ≡ Ok (length (hoa_text m))
    unfolding text_answer
    text_given = then_of _ _ tests

    pub text_left : text_buffer m buffer ≡ hoa_text m ++ drop (length (hoa_text m)) buffer
    unfolding text_buffer
    text_left = buffer_made _ _ buffer tests

    -- a text copied to the front
    pub text_copied : {w : List ℕ} {n : ℕ} → n ≡ length (hoa_text m) → w ≡ hoa_text m
        → (Ok n ≡ text_answer m (length buffer)) × (w ++ drop n buffer ≡ text_buffer m buffer)
    text_copied e f = (ap Ok e ∙ sym text_given, ap₂ (λ (v : List ℕ) (k : ℕ). v ++ drop k buffer) f e ∙ sym text_left)
