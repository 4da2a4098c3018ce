-- Laws of empty sets: a pair passes with 21 asked for exactly if it is well formed and no set is empty; what 21 tells; what an empty set means.
use Rattle.std.specs.Prelude.{Bool, true, false, ◌≡◌, refl, ℕ, suc, ◌≤◌, ◌<◌, get_or, Err}
use Rattle.std.proofs.Common.{inl, inr, ⊎_elim, sym, ap, ◌∙◌, arith, pow_pos}
use Rattle.std.proofs.Math.Dec.{ltb}
use borrow.Author.Tests.{ltb-true, lt-ltb, le-ltb, ltb-false}
use Rattle.mask.specs.LogicLaws.{dec, clash, refute, and_l, and_r, and_i, not_e, not_i}
use Rattle.mask.specs.Bits.{has_bit}
use Rattle.mask.specs.BitsLaws.{has_none, no_bits_zero}
use Rattle.mask.specs.BoundedLaws.{find, every_at, some_at}
use Rattle.machine.specs.declared.Machine.{Machine}
use Rattle.machine.specs.declared.Pair.{Pair}
use Rattle.machine.specs.declared.Refusal.{Refusal}
use Rattle.machine.specs.Refusals.{valid}
use Rattle.machine.specs.RefusalsLaws.{valid_next, then_of, then_answer, then_refused}
use Rattle.machine.specs.Machines.{fair_set, in_fair_set}
use Rattle.machine.specs.WellFormed.{lowest_empty_set, has_empty_set, content_validity, sets_validity, content_tests, pair_validity, nonempty_validity, nonempty_sets, well_formed}
use Rattle.machine.specs.FirstEmptyLaws.{found_empty, none_is_empty}
use Rattle.machine.specs.WellFormedLaws.{WellMachine, tests_passed, passed_tests, bad_concrete, good_concrete, content_only, content_then_sets, well_is_valid, well_pair}
use Rattle.machine.specs.Lassos.{is_fair}
use Rattle.machine.specs.EmptySets.{LowestEmpty, EmptySetTold, SetsHaveStates, NonemptyHasState, EmptySetIsUnfair}
use Rattle.machine.specs.declared.Refusal.TheVariants.{EmptySet}

-- ---- 21 of one machine
module _ (i : ℕ) (m : Machine) where
  sets_valid : has_empty_set m ≡ false → sets_validity i m ≡ valid
  unfolding sets_validity
  sets_valid e = rw e

  sets_refused : has_empty_set m ≡ true → sets_validity i m ≡ Err (EmptySet i (suc (lowest_empty_set m.sets m.fairness)))
  unfolding sets_validity
  sets_refused e = rw e

  sets_at : sets_validity i m ≡ valid → has_empty_set m ≡ false
  unfolding sets_validity
  sets_at e = (valid_next (has_empty_set m) _ _ e).0

  passed_at : content_tests true i m ≡ valid → (content_validity i m ≡ valid) × (has_empty_set m ≡ false)
  passed_at e = let b = then_answer (content_validity i m) (sets_validity i m) (sym (content_then_sets i m) ∙ e) in (b.0, sets_at b.1)

  passed_of : content_validity i m ≡ valid → has_empty_set m ≡ false → content_tests true i m ≡ valid
  passed_of e f = content_then_sets i m ∙ then_of _ _ e ∙ sets_valid f

  stopped_of : content_validity i m ≡ valid → has_empty_set m ≡ true → content_tests true i m ≡ Err (EmptySet i (suc (lowest_empty_set m.sets m.fairness)))
  stopped_of e f = content_then_sets i m ∙ then_of _ _ e ∙ sets_refused f

  -- ---- as the code goes: what was said of 9 to 11, and k, the lowest empty set
  pub tests_stopped : (nonempty : Bool) {r : Refusal} → content_validity i m ≡ Err r → content_tests nonempty i m ≡ Err r
  tests_stopped true e = content_then_sets i m ∙ then_refused _ _ _ e
  tests_stopped false e = content_only i m ∙ e

  pub tests_any : (nonempty : Bool) → nonempty ≡ false → content_validity i m ≡ valid → content_tests nonempty i m ≡ valid
  tests_any nonempty t e = rw t (content_only i m ∙ e)

  module _ (nonempty : Bool) (t : nonempty ≡ true) (e : content_validity i m ≡ valid) (k : ℕ) (lowest : k ≡ lowest_empty_set m.sets m.fairness) where
    -- n is the set counted from 1
    pub tests_empty : (n : ℕ) → k < 8 → n ≡ suc k → content_tests nonempty i m ≡ Err (EmptySet i n)
    unfolding has_empty_set
    tests_empty n h one = rw (t, one, lowest) (stopped_of e (ap (λ (x : ℕ). ltb x 8) (sym lowest) ∙ lt-ltb k 8 h))

    pub tests_nonempty : 8 ≤ k → content_tests nonempty i m ≡ valid
    unfolding has_empty_set
    tests_nonempty h = rw t (passed_of e (ap (λ (x : ℕ). ltb x 8) (sym lowest) ∙ le-ltb k 8 h))

-- ---- both machines
module _ (p : Pair) where
  sets_of : nonempty_sets p ≡ true → (has_empty_set p.concrete ≡ false) × (has_empty_set p.abstraction ≡ false)
  unfolding nonempty_sets
  sets_of t = (not_e _ (and_l _ _ t), not_e _ (and_r _ _ t))

  of_sets : has_empty_set p.concrete ≡ false → has_empty_set p.abstraction ≡ false → nonempty_sets p ≡ true
  unfolding nonempty_sets
  of_sets c a = and_i (not_i c) (not_i a)

  pub nonempty_valid : well_formed p ≡ true → nonempty_sets p ≡ true → nonempty_validity p ≡ valid
  nonempty_valid well t =
      let h = tests_passed false p (well_is_valid p well) in
      let s = sets_of t in
      passed_tests true p (record {
        concrete_counts = h.concrete_counts;
        abstract_counts = h.abstract_counts;
        concrete = passed_of 0 p.concrete (sym (content_only 0 p.concrete) ∙ h.concrete) s.0;
        abstraction = passed_of 1 p.abstraction (sym (content_only 1 p.abstraction) ∙ h.abstraction) s.1;
      })

  pub nonempty_at : nonempty_validity p ≡ valid → (pair_validity p ≡ valid) × (nonempty_sets p ≡ true)
  nonempty_at e =
      let h = tests_passed true p e in
      let c = passed_at 0 p.concrete h.concrete in
      let a = passed_at 1 p.abstraction h.abstraction in (
        passed_tests false p (record {
          concrete_counts = h.concrete_counts;
          abstract_counts = h.abstract_counts;
          concrete = content_only 0 p.concrete ∙ c.0;
          abstraction = content_only 1 p.abstraction ∙ a.0;
        }),
        of_sets c.1 a.1,
      )

-- ---- what 21 tells
lowest_empty : (m : Machine) → has_empty_set m ≡ true → LowestEmpty m (lowest_empty_set m.sets m.fairness)
unfolding has_empty_set in_fair_set fair_set
lowest_empty m t =
    let e = found_empty 8 m.sets m.fairness (ltb-true (lowest_empty_set m.sets m.fairness) 8 t) in
    record { within = e.within; no_state = λ s. ap (λ (x : ℕ). has_bit x s) e.zero ∙ has_none s; lower = e.lower }

pub empty_set_told_lem : EmptySetTold
empty_set_told_lem p well t =
    let h = tests_passed false p (well_is_valid p well) in
    let c : content_validity 0 p.concrete ≡ valid = sym (content_only 0 p.concrete) ∙ h.concrete in
    let a : content_validity 1 p.abstraction ≡ valid = sym (content_only 1 p.abstraction) ∙ h.abstraction in
    ⊎_elim
    (λ e. (_, bad_concrete true p h.concrete_counts h.abstract_counts _ (stopped_of 0 p.concrete c e), inl (_, refl, lowest_empty p.concrete e)))
    (λ e. let f : has_empty_set p.abstraction ≡ true = ⊎_elim (λ f. f) (λ f. absurd (clash t (of_sets p e f))) (dec (has_empty_set p.abstraction)) in (
      _,
      good_concrete true p h.concrete_counts h.abstract_counts (passed_of 0 p.concrete c e) ∙ stopped_of 1 p.abstraction a f,
      inr (_, refl, e, lowest_empty p.abstraction f),
    ))
    (dec (has_empty_set p.concrete))

-- ---- what an empty set means
sets_have_states : (limit : ℕ) (m : Machine) → WellMachine limit m → limit ≤ 8 → has_empty_set m ≡ false → SetsHaveStates m
unfolding has_empty_set in_fair_set fair_set
sets_have_states limit m w small t k l wide = ⊎_elim
    (λ q. (q.0, w.set_bits k q.0 l q.1 q.2, q.2))
    (λ q. absurd (none_is_empty 8 m.sets m.fairness (λ h. omega (arith, h, ltb-false (lowest_empty_set m.sets m.fairness) 8 t)) k (omega (arith, w.sets_high)) l
    (no_bits_zero 64 (fair_set m k) wide q)))
    (find 64 (λ s. has_bit (fair_set m k) s))

states_nonempty : (m : Machine) → SetsHaveStates m → has_empty_set m ≡ false
unfolding has_empty_set in_fair_set fair_set
states_nonempty m h = refute _ (λ t.
    let k = lowest_empty_set m.sets m.fairness in
    let e = found_empty 8 m.sets m.fairness (ltb-true k 8 t) in
    let q = h k e.within (rw e.zero (pow_pos 64)) in
    clash (ap (λ (x : ℕ). has_bit x q.0) e.zero ∙ has_none q.0) q.2)

pub nonempty_has_state : NonemptyHasState
nonempty_has_state p well =
    let w = well_pair p well in (
      λ t. let s = sets_of p t in
          (sets_have_states 8 p.concrete w.concrete (omega arith) s.0, sets_have_states 7 p.abstraction w.abstraction (omega arith) s.1),
      λ h. of_sets p (states_nonempty p.concrete h.0) (states_nonempty p.abstraction h.1),
    )

pub empty_set_is_unfair : EmptySetIsUnfair
unfolding is_fair
empty_set_is_unfair m l t =
    let e = lowest_empty m t in
    let k = lowest_empty_set m.sets m.fairness in
    refute _ (λ u. let q = some_at _ _ (every_at m.sets _ u k e.within) in clash (e.no_state (get_or l.loop q.0 0)) q.2)
