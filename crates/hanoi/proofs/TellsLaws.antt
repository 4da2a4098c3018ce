-- The text of a well-formed machine tells the machine: part by part, what two equal texts write is equal.
use Rattle.std.specs.Prelude.{Bool, true, false, cond, ◌≡◌, get_or}
use mathlib.Core.List.{List, ◌∷◌, ◌++◌, flat_map, append_assoc, append_cancel_left, head-eq_of_cons-eq, tail-eq_of_cons-eq}
use Rattle.std.proofs.Math.Logic.{by_cases}
use Rattle.std.proofs.Math.Path.{refl, sym, ap, ap₂, subst}
use Rattle.std.proofs.Common.{◌∙◌}
use Prim.Native.Nat.{ℕ, zero, suc, ◌+◌, ◌^◌, ◌≤◌, ◌<◌}
use Rattle.std.proofs.Math.Decide.{dec_lt}
use native.Mathlib.Omega.{arith}
use Rattle.std.proofs.Math.Seq.{ext_get_or}
use Rattle.mask.specs.Logic.{and}
use Rattle.mask.specs.LogicLaws.{clash, refute}
use Rattle.mask.specs.Bits.{has_bit}
use Rattle.mask.specs.BitsLaws.{mask_ext}
use Rattle.text.specs.Decimal.{decimal, is_digit}
use Rattle.text.specs.EndsLaws.{begun, decimal_begun, number_told}
use Rattle.machine.specs.declared.Machine.{Machine}
use Rattle.machine.specs.Machines.{observation, successors, fair_set, in_fair_set}
use Rattle.machine.specs.WellFormedLaws.{WellMachine, valid_machine}
use Rattle.codec.specs.Statements.{RepresentableMachine}
use Rattle.hanoi.specs.Words.{ascii, numbers, below, chosen, states_of, spread, joined}
use Rattle.hanoi.specs.Text.{start_line, literal, label, sets_with, in_braces, state_lines, hoa_text}
use Rattle.hanoi.specs.Statements.{TextTellsMachine}
use Rattle.hanoi.specs.Parts.{start_lines, names_word, count_word, literals}
use Rattle.hanoi.proofs.LinesLaws.{start_next, braces_next, braces_end, state_lines_lem, text_lines, middle, head_behind}
use Rattle.hanoi.proofs.CutLaws.{Small, small_none, small_next, joined_told, chosen_small, chosen_told}

-- ---- the states of a mask
states_small : (m : ℕ) → Small (states_of m)
unfolding states_of
states_small m = chosen_small (has_bit m) 0 64 (omega arith)

states_told : (m n : ℕ) → m < 2 ^ 64 → n < 2 ^ 64 → states_of m ≡ states_of n → m ≡ n
unfolding states_of
states_told m n hm hn e = mask_ext 64 m n hm hn (chosen_told (has_bit m) (has_bit n) 64 e)

-- the lines of start states, in front of a text that begins with another letter
starts_told : (x y : List ℕ) {l k : List ℕ} → (get_or x 0 0 ≡ 83 → ⊥) → (get_or y 0 0 ≡ 83 → ⊥) → Small l → Small k
    → flat_map start_line l ++ x ≡ flat_map start_line k ++ y → (l ≡ k) × (x ≡ y)
unfolding flat_map is_digit and
starts_told x y p q small_none small_none e = (refl, e)
starts_told x y p q small_none (small_next {n} {l} b h) e = absurd (p (ap (λ (t : List ℕ). get_or t 0 0) (e ∙ start_next n l y)))
starts_told x y p q (small_next {n} {l} a g) small_none e = absurd (q (ap (λ (t : List ℕ). get_or t 0 0) (sym e ∙ start_next n l x)))
starts_told x y p q (small_next {n} {l} a g) (small_next {n = m} {l = k} b h) e =
    let t = number_told n m (10 ∷ (flat_map start_line l ++ x)) (10 ∷ (flat_map start_line k ++ y)) a b refl refl
    (append_cancel_left (ascii "Start: ") _ _ (sym (start_next n l x) ∙ e ∙ start_next m k y)) in
    let r = starts_told x y p q g h (tail-eq_of_cons-eq t.1) in
    (ap₂ ◌∷◌ t.0 r.0, r.1)

-- ---- a label, with what stands behind it
literal_told : (o p n : ℕ) (x y : List ℕ) → literal o n ++ x ≡ literal p n ++ y → (has_bit o n ≡ has_bit p n) × (x ≡ y)
unfolding literal is_digit and
literal_told o p n x y e = go (has_bit o n) (has_bit p n) e
  where
    go : (b c : Bool) → (cond b (ascii "") (ascii "!") ++ decimal n) ++ x ≡ (cond c (ascii "") (ascii "!") ++ decimal n) ++ y → (b ≡ c) × (x ≡ y)
    go true true e = (refl, append_cancel_left (decimal n) x y e)
    go true false e = absurd (clash refl (sym (ap begun e) ∙ decimal_begun n x))
    go false true e = absurd (clash refl (ap begun e ∙ decimal_begun n y))
    go false false e = (refl, append_cancel_left (decimal n) x y (tail-eq_of_cons-eq e))

literals_told : (o p s k : ℕ) (x y : List ℕ) → literals o s k ++ x ≡ literals p s k ++ y → ((i : ℕ) → s ≤ i → i < s + k → has_bit o i ≡ has_bit p i) × (x ≡ y)
unfolding literals spread flat_map numbers
literals_told o p s zero x y e = (λ i a b. absurd (omega arith), e)
literals_told o p s (suc k) x y e =
    let t = literal_told o p s (literals o (suc s) k ++ x) (literals p (suc s) k ++ y)
    (sym (append_assoc (literal o s) (literals o (suc s) k) x) ∙ tail-eq_of_cons-eq e ∙ append_assoc (literal p s) (literals p (suc s) k) y) in
    let r = literals_told o p (suc s) k x y t.1 in
    (λ i a b. by_cases (dec_lt s i) (λ l. r.0 i l (omega arith)) (λ l. let z : s ≡ i = omega arith in subst (λ (j : ℕ). has_bit o j ≡ has_bit p j) z t.0), r.1)

label_told : (o p : ℕ) (x y : List ℕ) → o < 256 → p < 256 → label o ++ x ≡ label p ++ y → (o ≡ p) × (x ≡ y)
unfolding label joined literals spread flat_map numbers
label_told o p x y ho hp e =
    let t = literals_told o p 0 8 x y (ap (λ (u : List ℕ). 38 ∷ u) e) in
    (mask_ext 8 o p ho hp (λ i l. t.0 i (omega arith) (omega arith)), t.1)

-- ---- the sets of a state, in braces, up to the end of the line
braces_told : (x y : List ℕ) {l k : List ℕ} → Small l → Small k → spread (ascii " ") (in_braces l) ++ (10 ∷ x) ≡ spread (ascii " ") (in_braces k) ++ (10 ∷ y) → (l ≡ k) × (x ≡ y)
unfolding is_digit and
braces_told x y small_none small_none e = (refl, tail-eq_of_cons-eq (simp braces_end at e))
braces_told x y small_none (small_next b h) e = absurd (omega (arith, head-eq_of_cons-eq (simp (braces_end, braces_next) at e)))
braces_told x y (small_next a g) small_none e = absurd (omega (arith, head-eq_of_cons-eq (simp (braces_end, braces_next) at e)))
braces_told x y (small_next a g) (small_next b h) e =
    let t = joined_told 125 (10 ∷ x) (10 ∷ y) refl (λ z. omega arith) (small_next a g) (small_next b h)
    (append_cancel_left (ascii " {") _ _ (simp braces_next at e)) in
    (t.0, tail-eq_of_cons-eq t.1)

-- ---- the sets of a state are small numbers
module _ (m : Machine) (s : ℕ) where
  sets_small : WellMachine 8 m → Small (sets_with m s)
  unfolding sets_with
  sets_small w = chosen_small (λ k. in_fair_set m k s) 0 m.sets (omega (arith, w.sets_high))

-- ---- two machines with the same text
-- what the lines of state s tell
record SameState (a b : Machine) (s : ℕ) : Type 0 where
  same_observation_lem : observation a s ≡ observation b s
  same_sets : sets_with a s ≡ sets_with b s
  same_successors : successors a s ≡ successors b s

-- and what the whole text tells
record Told (a b : Machine) : Type 0 where
  same_states : a.states ≡ b.states
  same_start : a.start ≡ b.start
  same_count : a.sets ≡ b.sets
  same_state : (s : ℕ) → s < a.states → SameState a b s

module _ (a b : Machine) (ra : RepresentableMachine a) (rb : RepresentableMachine b) (wa : WellMachine 8 a) (wb : WellMachine 8 b) where
  state_told : (s : ℕ) (x y : List ℕ) → state_lines a s ++ x ≡ state_lines b s ++ y → SameState a b s × (x ≡ y)
  unfolding is_digit and observation successors
  state_told s x y e =
      let t = label_told (observation a s) (observation b s) _ _ (ra.observation_byte s) (rb.observation_byte s)
      (append_cancel_left (ascii "State: [") _ _ (sym (state_lines_lem a s x) ∙ e ∙ state_lines_lem b s y)) in
      let u = braces_told _ _ (sets_small a s wa) (sets_small b s wb) (append_cancel_left (decimal s) _ _ (append_cancel_left (ascii "] ") _ _ t.1)) in
      let v = joined_told 10 x y refl (λ z. omega arith) (states_small (successors a s)) (states_small (successors b s)) u.1 in (
        record {
          same_observation_lem = t.0;
          same_sets = u.0;
          same_successors = states_told _ _ (ra.successors_mask s) (rb.successors_mask s) v.0;
        },
        v.1,
      )

  states_lines_told : (s k : ℕ) (x y : List ℕ) → flat_map (state_lines a) (numbers s k) ++ x ≡ flat_map (state_lines b) (numbers s k) ++ y
      → (i : ℕ) → s ≤ i → i < s + k → SameState a b i
  unfolding flat_map numbers
  states_lines_told s zero x y e i p q = absurd (omega arith)
  states_lines_told s (suc k) x y e i p q =
      let t = state_told s (flat_map (state_lines a) (numbers (suc s) k) ++ x) (flat_map (state_lines b) (numbers (suc s) k) ++ y)
      (sym (append_assoc (state_lines a s) (flat_map (state_lines a) (numbers (suc s) k)) x) ∙ e ∙ append_assoc (state_lines b s) (flat_map (state_lines b) (numbers (suc s) k)) y) in
      by_cases (dec_lt s i) (λ l. states_lines_told (suc s) k x y t.1 i l (omega arith)) (λ l. let z : s ≡ i = omega arith in subst (SameState a b) z t.0)

  text_told : hoa_text a ≡ hoa_text b → Told a b
  unfolding is_digit and start_lines
  text_told e =
      let end = ascii "--END--\n" in
      let whole_a = text_lines a ∙ head_behind a.states a.sets a.start (flat_map (state_lines a) (below a.states) ++ end) in
      let whole_b = text_lines b ∙ head_behind b.states b.sets b.start (flat_map (state_lines b) (below b.states) ++ end) in
      let t = number_told a.states b.states _ _ (omega (arith, wa.states_high)) (omega (arith, wb.states_high)) refl refl
      (append_cancel_left (ascii "HOA: v1\nStates: ") _ _ (sym whole_a ∙ e ∙ whole_b)) in
      let u = starts_told _ _ (λ z. omega arith) (λ z. omega arith) (states_small a.start) (states_small b.start) (tail-eq_of_cons-eq t.1) in
      let v = number_told a.sets b.sets _ _ (omega (arith, wa.sets_high)) (omega (arith, wb.sets_high)) refl refl
      (append_cancel_left (names_word ++ count_word) _ _ u.1) in
      let r = append_cancel_left (ascii "\nAcceptance: ") _ _ v.1 ∙ ap₂ (λ (n k : ℕ). middle n ++ (flat_map (state_lines b) (below k) ++ end)) (sym v.0) (sym t.0) in
      record {
        same_states = t.0;
        same_start = states_told a.start b.start ra.start_mask rb.start_mask u.0;
        same_count = v.0;
        same_state = λ s l. states_lines_told 0 a.states end end (append_cancel_left (middle a.sets) _ _ r) s (omega arith) (omega arith);
      }

  -- each entry of the lists, past the counts too, where both machines have zero
  module _ (t : Told a b) where
    observations_same : (s : ℕ) → s < 64 → observation a s ≡ observation b s
    observations_same s l = by_cases (dec_lt s a.states) (λ h. (t.same_state s h).same_observation_lem)
        (λ h. wa.observation_zero s (omega arith) l ∙ sym (wb.observation_zero s (omega (arith, t.same_states)) l))

    successors_same : (s : ℕ) → s < 64 → successors a s ≡ successors b s
    successors_same s l = by_cases (dec_lt s a.states) (λ h. (t.same_state s h).same_successors)
        (λ h. wa.successors_zero s (omega arith) l ∙ sym (wb.successors_zero s (omega (arith, t.same_states)) l))

    set_at_lem : (k s : ℕ) → k < a.sets → s < 64 → in_fair_set a k s ≡ in_fair_set b k s
    unfolding sets_with
    set_at_lem k s h l = by_cases (dec_lt s a.states)
        (λ q.
        let e = (t.same_state s q).same_sets ∙ ap (λ (n : ℕ). chosen (λ k. in_fair_set b k s) (below n)) (sym t.same_count) in
        chosen_told (λ k. in_fair_set a k s) (λ k. in_fair_set b k s) a.sets e k h)
        (λ q.
        refute _ (λ u. absurd (omega (arith, wa.set_bits k s h l u)))
        ∙ sym (refute _ (λ u. absurd (omega (arith, t.same_states, wb.set_bits k s (omega (arith, t.same_count)) l u)))))

    fairness_same : (k : ℕ) → k < 8 → fair_set a k ≡ fair_set b k
    unfolding fair_set in_fair_set
    fairness_same k l = by_cases (dec_lt k a.sets)
        (λ h. mask_ext 64 (fair_set a k) (fair_set b k) (ra.fairness_mask k) (rb.fairness_mask k) (λ s q. set_at_lem k s h q))
        (λ h. wa.fairness_zero k (omega arith) l ∙ sym (wb.fairness_zero k (omega (arith, t.same_count)) l))

    machine_same : a ≡ b
    unfolding observation successors fair_set
    machine_same =
        let o = ext_get_or 0 a.observations b.observations (ra.observations_length ∙ sym rb.observations_length) (λ i l. observations_same i (omega (arith, ra.observations_length))) in
        let m = ext_get_or 0 a.successors b.successors (ra.successors_length ∙ sym rb.successors_length) (λ i l. successors_same i (omega (arith, ra.successors_length))) in
        let f = ext_get_or 0 a.fairness b.fairness (ra.fairness_length ∙ sym rb.fairness_length) (λ i l. fairness_same i (omega (arith, ra.fairness_length))) in
        λ i. record { states = t.same_states i; sets = t.same_count i; start = t.same_start i; observations = o i; successors = m i; fairness = f i }

-- ---- the theorem
pub text_tells_machine : TextTellsMachine
text_tells_machine a b ra rb va vb e =
    let wa = valid_machine 8 a (omega arith) va in
    let wb = valid_machine 8 b (omega arith) vb in
    machine_same a b ra rb wa wb (text_told a b ra rb wa wb e)
