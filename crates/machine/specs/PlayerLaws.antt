-- Laws of the player's tests: refusals 13 to 15, as code asks for their parts, and which test of document 01's order tells what is said.
use Rattle.std.proofs.Math.Bool as B
use Rattle.std.specs.Prelude.{Bool, true, false, cond, List, ◌≡◌, ℕ, suc, ◌+◌, ◌-◌, ◌≤◌, ◌<◌, eqb, ltb, Err, None, Some}
use Rattle.std.proofs.Math.Path.{sym}
use Rattle.std.proofs.Common.{ap, ◌∙◌, add-one}
use native.Mathlib.Omega.{arith}
use Rattle.std.proofs.Math.ListN.{length}
use borrow.Author.Tests.{eqb-true, eqb-false, eq-eqb, ne_eqb, ltb-false, lt-ltb, le-ltb, le-leb, lt-leb, not-true, not-false}
use Rattle.mask.specs.Logic.{not, and}
use Rattle.mask.specs.LogicLaws.{cond_cases, or_l, or_r, or_false_l, or_none, not_i, not_f, not_is, and_true_l, and_false_l}
use Rattle.mask.specs.Bounded.{first}
use Rattle.machine.specs.declared.Machine.{Machine}
use Rattle.machine.specs.declared.Pair.{Pair}
use Rattle.machine.specs.declared.Refusal.{Refusal}
use Rattle.machine.specs.Refusals.{and_then, valid}
use Rattle.machine.specs.RefusalsLaws.{then_of, then_refused, valid_next}
use Rattle.machine.specs.Machines.{moves, starts, next, sets_a}
use Rattle.machine.specs.WellFormed.{pair_validity}
use Rattle.machine.specs.Lassos.{Lasso, lasso_length, moment}
use Rattle.machine.specs.Step.{single_step, found}
use Rattle.machine.specs.StepLaws.{next_lt}
use Rattle.machine.specs.SingleStepLaws.{single_none}
use Rattle.machine.specs.Table.{entry}
use Rattle.machine.specs.Lines.{non_blank, lines_validity}
use Rattle.machine.specs.Player.{has_bad_length, bad_step, missed_set, lasso_validity, Place, start_partner, start_validity, section_after, play_validity}
use Rattle.machine.specs.declared.Refusal.TheVariants.{BadLassoLength, BadLassoStep, NoStartPartner, UnfairLasso}

-- ---- 13
module _ (l : Lasso) where
  pub length_empty : length l.loop ≡ 0 → has_bad_length l ≡ true
  unfolding has_bad_length
  length_empty e = or_l _ (eq-eqb _ _ e)

  pub length_over : 64 < lasso_length l → has_bad_length l ≡ true
  unfolding has_bad_length
  length_over h = or_r _ (lt-ltb _ _ h)

  pub length_whole : (length l.loop ≡ 0 → ⊥) → has_bad_length l ≡ ltb 64 (lasso_length l)
  unfolding has_bad_length
  length_whole d = or_false_l _ (ne_eqb _ _ d)

  pub good_length : has_bad_length l ≡ false → (0 < length l.loop) × (lasso_length l ≤ 64)
  unfolding has_bad_length
  good_length t =
      let q = or_none _ _ t in
      let some_loop : length l.loop ≡ 0 → ⊥ = eqb-false _ _ q.0 in
      (omega arith, ltb-false _ _ q.1)

-- ---- 14
module _ (m : Machine) (l : Lasso) (i : ℕ) where
  -- position i is entered rightly
  pub record Entered : Type 0 where
    pub start : i ≡ 0 → starts m (moment l 0) ≡ true
    pub entered : (i ≡ 0 → ⊥) → moves m (moment l (i - 1)) (moment l i) ≡ true

  -- what is left to test where the state is one of the machine's and is entered rightly
  rest : moment l i < m.states → Entered → bad_step m l i ≡ and (eqb (suc i) (lasso_length l)) (not (moves m (moment l i) (moment l (suc i))))
  unfolding bad_step
  rest h r = or_false_l _ (lt-leb _ _ h) ∙ or_false_l _ (cond_cases (eqb i 0) (λ b. b ≡ false)
      (not (starts m (moment l 0))) (not (moves m (moment l (i - 1)) (moment l i)))
      (λ t. not_f (r.start (eqb-true _ _ t))) (λ t. not_f (r.entered (eqb-false _ _ t))))

  -- s is the state at position i
  module _ (s : ℕ) (at : s ≡ moment l i) where
    pub bad_state : m.states ≤ s → true ≡ bad_step m l i
    unfolding bad_step
    bad_state h = sym (or_l _ (le-leb m.states (moment l i) (rw (← at) h)))

    -- r tells whether s is a start
    module _ (e : i ≡ 0) (r : Bool) (is : r ≡ starts m s) where
      starts_is : starts m (moment l 0) ≡ r
      starts_is = cc (e, at, is)

      pub bad_start : B.not r ≡ true → true ≡ bad_step m l i
      unfolding bad_step
      bad_start t = sym (or_r _ (or_l _ (rw (eq-eqb i 0 e) (not_i (starts_is ∙ not-true r t)))))

      pub good_start : B.not r ≡ false → Entered
      good_start t = record { start = λ z. starts_is ∙ not-false r t; entered = λ n. absurd (n e) }

    -- r tells whether p, the state before, moves to s
    module _ (n : i ≡ 0 → ⊥) (p : ℕ) (before : p ≡ moment l (i - 1)) (r : Bool) (is : r ≡ moves m p s) where
      entry_is : moves m (moment l (i - 1)) (moment l i) ≡ r
      entry_is = cc (before, at, is)

      pub bad_entry : B.not r ≡ true → true ≡ bad_step m l i
      unfolding bad_step
      bad_entry t = sym (or_r _ (or_l _ (rw (ne_eqb i 0 n) (not_i (entry_is ∙ not-true r t)))))

      pub good_entry : B.not r ≡ false → Entered
      good_entry t = record { start = λ e. absurd (n e); entered = λ z. entry_is ∙ not-false r t }

    -- before the last position nothing is left; at the last position, the closing step
    module _ (h : s < m.states) (b : Entered) where
      pub good_before : (suc i ≡ lasso_length l → ⊥) → false ≡ bad_step m l i
      good_before d = sym (rest (rw (← at) h) b ∙ and_false_l _ (ne_eqb (suc i) (lasso_length l) d))

      pub closing : suc i ≡ lasso_length l → (t : ℕ) → t ≡ moment l (suc i) → (r : Bool) → r ≡ moves m s t → B.not r ≡ bad_step m l i
      closing e t back r is =
          let c : moves m (moment l i) (moment l (suc i)) ≡ r = cc (at, is, back) in
          sym (rest (rw (← at) h) b ∙ and_true_l _ (eq-eqb _ _ e) ∙ ap not c ∙ not_is r)

-- ---- 13 to 15 together, each after all that is tested before it
module _ (m : Machine) (l : Lasso) where
  pub refused_length : has_bad_length l ≡ true → lasso_validity m l ≡ Err BadLassoLength
  unfolding lasso_validity
  refused_length e = rw e

  -- i is the first wrong position, and k the first missed set
  module _ (fit : has_bad_length l ≡ false) (i : ℕ) (position : i ≡ first (lasso_length l) (bad_step m l)) where
    pub refused_step : i < lasso_length l → lasso_validity m l ≡ Err (BadLassoStep i)
    unfolding lasso_validity
    refused_step h = rw (fit, ← position, lt-ltb i (lasso_length l) h)

    module _ (past : lasso_length l ≤ i) (k : ℕ) (set : k ≡ first m.sets (missed_set m l)) where
      pub refused_set : k < m.sets → lasso_validity m l ≡ Err (UnfairLasso (k + 1))
      unfolding lasso_validity
      refused_set h = rw (fit, ← position, le-ltb i (lasso_length l) past, ← set, lt-ltb k m.sets h, add-one)

      pub not_refused : m.sets ≤ k → lasso_validity m l ≡ valid
      unfolding lasso_validity
      not_refused h = rw (fit, ← position, le-ltb i (lasso_length l) past, ← set, le-ltb k m.sets h)

  pub lasso_length_lem : lasso_validity m l ≡ valid → (0 < length l.loop) × (lasso_length l ≤ 64)
  unfolding lasso_validity
  lasso_length_lem e = good_length l (valid_next _ _ _ e).0

-- ---- sections
-- the section after a place is one of n
pub after_lt : (n j e : ℕ) → j < n → cond (eqb e 0) (next n j) j < n
after_lt n j e h = cond_cases (eqb e 0) (λ (i : ℕ). i < n) (next n j) j (λ t. next_lt n j h) (λ t. h)

module _ (p : Pair) (T : List ℕ) where
  -- ---- the start is a single step where no state is present
  pub start_single : (c present : ℕ) → 64 ≤ present → single_step present p.abstraction.start (non_blank p T 0 c) (entry p T 0 c) ≡ start_partner p T c
  unfolding start_partner
  start_single c present h = single_none present p.abstraction.start (non_blank p T 0 c) (entry p T 0 c) h

  pub section_lt : (c : ℕ) (at : Place) → at.section < sets_a p → section_after p T c at < sets_a p
  unfolding section_after
  section_lt c at h = after_lt (sets_a p) at.section (entry p T at.section c at.state) h

  -- ---- 5, 9 to 16: which test tells what is said
  module _ (l : Lasso) where
    pub play_ill : (r : Refusal) → pair_validity p ≡ Err r → play_validity p T l ≡ Err r
    unfolding play_validity
    play_ill r e = then_refused _ _ r e

    module _ (v : pair_validity p ≡ valid) where
      pub play_fails : (r : Refusal) → lines_validity p T ≡ Err r → play_validity p T l ≡ Err r
      unfolding play_validity
      play_fails r e = then_of _ _ v ∙ then_refused _ _ r e

      module _ (t : lines_validity p T ≡ valid) where
        left : play_validity p T l ≡ and_then (lasso_validity p.concrete l) (start_validity p T l)
        unfolding play_validity
        left = then_of _ _ v ∙ then_of _ _ t

        pub play_unfit : (r : Refusal) → lasso_validity p.concrete l ≡ Err r → play_validity p T l ≡ Err r
        play_unfit r e = left ∙ then_refused _ _ r e

        module _ (f : lasso_validity p.concrete l ≡ valid) where
          pub play_alone : start_partner p T (moment l 0) ≡ None → play_validity p T l ≡ Err NoStartPartner
          unfolding start_validity found
          play_alone e = left ∙ then_of _ _ f ∙ rw e

          pub play_valid : (a : ℕ) → start_partner p T (moment l 0) ≡ Some a → play_validity p T l ≡ valid
          unfolding start_validity found
          play_valid a e = left ∙ then_of _ _ f ∙ rw e
