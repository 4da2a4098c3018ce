-- What a well-formed machine and a well-formed pair give, and what makes one.
use Rattle.std.specs.Prelude.{Bool, true, false, ◌≡◌, ℕ, ◌+◌, ◌*◌, ◌≤◌, ◌<◌, ◌^◌, eqb, leb, ltb, Err, Ok}
use Rattle.std.proofs.Math.Logic.{by_cases}
use Rattle.std.proofs.Math.Path.{refl}
use Rattle.std.proofs.Common.{sym, ◌∙◌, le_trans, mul-le-mul_right, mul-le-mul_left, mul-pos, arith}
use Rattle.std.proofs.Math.Decide.{dec_le}
use borrow.Author.Tests.{eqb-true, eqb-false, leb-true, le-leb, lt-ltb, le-ltb}
use Rattle.mask.specs.Logic.{and}
use Rattle.mask.specs.LogicLaws.{clash, refute, and_l, and_r, and_i, and_false_l, and_false_r, or_none, not_false}
use Rattle.mask.specs.Bits.{has_bit}
use Rattle.mask.specs.BitsLaws.{has_small}
use Rattle.mask.specs.BoundedLaws.{none_at, some_in_of, some_in_at}
use Rattle.machine.specs.declared.Machine.{Machine}
use Rattle.machine.specs.declared.Pair.{Pair}
use Rattle.machine.specs.declared.Refusal.{Refusal}
use Rattle.machine.specs.Refusals.{Tested, valid, number_of, and_then}
use Rattle.machine.specs.RefusalsLaws.{valid_next, valid_if, then_answer, then_of, then_refused, RefusesOnly, refuses_none, refuses_at, refuses_cond, refuses_then}
use Rattle.machine.specs.Machines.{observation, successors, moves, starts, fair_set, in_fair_set, n_c, n_a, sets_c, sets_a, pairs}
use Rattle.machine.specs.Table.{table_room}
use Rattle.machine.specs.WellFormed.{counts_ok, beyond, state_beyond, set_beyond, is_beyond_counts, stuck_state, content_validity, sets_validity, content_tests, machine_validity, pair_tests, pair_validity, is_valid, well_formed}
use Rattle.machine.specs.FirstEmptyLaws.{none_is_empty}
use Rattle.machine.specs.declared.Refusal.TheVariants.{BadCounts, BeyondCounts, NoStart, NoSuccessor}

-- ---- validity
pub is_valid_lem : (v : Tested) → is_valid v ≡ true → v ≡ valid
unfolding is_valid
is_valid_lem (Ok u) t = refl
is_valid_lem (Err r) t = absurd (clash refl t)

pub valid_is : (v : Tested) → v ≡ valid → is_valid v ≡ true
unfolding is_valid
valid_is v e = rw e

-- ---- a pair, test by test
module _ (nonempty : Bool) (p : Pair) where
  pub bad_concrete_counts : counts_ok 8 p.concrete.states p.concrete.sets ≡ false → pair_tests nonempty p ≡ Err BadCounts
  unfolding pair_tests
  bad_concrete_counts h = rw (and_false_l _ h)

  pub bad_abstract_counts : counts_ok 7 p.abstraction.states p.abstraction.sets ≡ false → pair_tests nonempty p ≡ Err BadCounts
  unfolding pair_tests
  bad_abstract_counts h = rw (and_false_r _ h)

  module _ (c : counts_ok 8 p.concrete.states p.concrete.sets ≡ true) (a : counts_ok 7 p.abstraction.states p.abstraction.sets ≡ true) where
    contents : pair_tests nonempty p ≡ and_then (content_tests nonempty 0 p.concrete) (content_tests nonempty 1 p.abstraction)
    unfolding pair_tests
    contents = rw (and_i c a)

    pub bad_concrete : (r : Refusal) → content_tests nonempty 0 p.concrete ≡ Err r → pair_tests nonempty p ≡ Err r
    bad_concrete r e = contents ∙ then_refused _ _ r e

    pub good_concrete : content_tests nonempty 0 p.concrete ≡ valid → pair_tests nonempty p ≡ content_tests nonempty 1 p.abstraction
    good_concrete e = contents ∙ then_of _ _ e

-- 21 stands behind 9 to 11 of the same machine, where it is asked for
module _ (i : ℕ) (m : Machine) where
  pub content_only : content_tests false i m ≡ content_validity i m
  unfolding content_tests
  content_only = refl

  pub content_then_sets : content_tests true i m ≡ and_then (content_validity i m) (sets_validity i m)
  unfolding content_tests
  content_then_sets = refl

-- nothing of a pair is refused exactly where the counts are right and nothing of either machine is refused
pub record PairPasses (nonempty : Bool) (p : Pair) : Type 0 where
  pub concrete_counts : counts_ok 8 p.concrete.states p.concrete.sets ≡ true
  pub abstract_counts : counts_ok 7 p.abstraction.states p.abstraction.sets ≡ true
  pub concrete : content_tests nonempty 0 p.concrete ≡ valid
  pub abstraction : content_tests nonempty 1 p.abstraction ≡ valid

pub tests_passed : (nonempty : Bool) (p : Pair) → pair_tests nonempty p ≡ valid → PairPasses nonempty p
unfolding pair_tests
tests_passed nonempty p e =
    let a = valid_if _ _ _ e in
    let b = then_answer (content_tests nonempty 0 p.concrete) (content_tests nonempty 1 p.abstraction) a.1 in
    record { concrete_counts = and_l _ _ a.0; abstract_counts = and_r _ _ a.0; concrete = b.0; abstraction = b.1 }

pub passed_tests : (nonempty : Bool) (p : Pair) → PairPasses nonempty p → pair_tests nonempty p ≡ valid
passed_tests nonempty p h = good_concrete nonempty p h.concrete_counts h.abstract_counts h.concrete ∙ h.abstraction

-- ---- bits beyond a count
pub beyond_none : (n mask : ℕ) → beyond n mask ≡ false → (i : ℕ) → i < 64 → has_bit mask i ≡ true → i < n
unfolding beyond
beyond_none n mask t i h e = by_cases (dec_le n i) (λ l. absurd (clash t (some_in_of 64 mask (leb n) i h e (le-leb n i l)))) (λ l. omega arith)

pub none_beyond : (n mask : ℕ) → ((i : ℕ) → i < 64 → has_bit mask i ≡ true → i < n) → beyond n mask ≡ false
unfolding beyond
none_beyond n mask h =
    refute _ (λ t. let q = some_in_at 64 mask (leb n) t in absurd (omega (arith, leb-true n q.0 q.3, h q.0 q.1 q.2)))

-- ---- one machine
pub record WellMachine (limit : ℕ) (m : Machine) : Type 0 where
  pub states_low : 0 < m.states
  pub states_high : m.states ≤ 64
  pub sets_low : 0 < m.sets
  pub sets_high : m.sets ≤ limit
  pub start_bits : (i : ℕ) → i < 64 → starts m i ≡ true → i < m.states
  pub move_bits : (s i : ℕ) → s < m.states → i < 64 → moves m s i ≡ true → i < m.states
  pub set_bits : (k i : ℕ) → k < m.sets → i < 64 → in_fair_set m k i ≡ true → i < m.states
  pub observation_zero : (s : ℕ) → m.states ≤ s → s < 64 → observation m s ≡ 0
  pub successors_zero : (s : ℕ) → m.states ≤ s → s < 64 → successors m s ≡ 0
  pub fairness_zero : (k : ℕ) → m.sets ≤ k → k < 8 → fair_set m k ≡ 0
  pub has_start : m.start ≡ 0 → ⊥
  pub has_move : (s : ℕ) → s < m.states → successors m s ≡ 0 → ⊥

pub counts_at : (limit states sets : ℕ) → counts_ok limit states sets ≡ true → (0 < states) × (states ≤ 64) × (0 < sets) × (sets ≤ limit)
unfolding counts_ok
counts_at limit states sets t =
    let a = and_l (and (leb 1 states) (leb states 64)) _ t in
    let b = and_r (and (leb 1 states) (leb states 64)) _ t in
    (leb-true 1 states (and_l _ _ a), leb-true states 64 (and_r _ _ a), leb-true 1 sets (and_l _ _ b), leb-true sets limit (and_r _ _ b))

pub counts_of : (limit states sets : ℕ) → 0 < states → states ≤ 64 → 0 < sets → sets ≤ limit → counts_ok limit states sets ≡ true
unfolding counts_ok
counts_of limit states sets a b c d = and_i (and_i (le-leb 1 states a) (le-leb states 64 b)) (and_i (le-leb 1 sets c) (le-leb sets limit d))

module _ (limit i : ℕ) (m : Machine) where
  tests : content_validity i m ≡ valid → (is_beyond_counts m ≡ false) × (m.start ≡ 0 → ⊥) × (stuck_state m.states m.successors < 64 → ⊥)
  unfolding content_validity
  tests content =
      let a = valid_next (is_beyond_counts m) _ _ content in
      let b = valid_next (eqb m.start 0) _ _ a.1 in
      let s = stuck_state m.states m.successors in
      (a.0, eqb-false m.start 0 b.0, λ l. clash (valid_next (ltb s 64) _ _ b.1).0 (lt-ltb s 64 l))

  parts : is_beyond_counts m ≡ false → (beyond m.states m.start ≡ false)
      × ((s : ℕ) → s < 64 → state_beyond m.states m.observations m.successors s ≡ false)
      × ((k : ℕ) → k < 8 → set_beyond m.states m.sets m.fairness k ≡ false)
  unfolding is_beyond_counts
  parts t =
      let a = or_none _ _ t in
      let b = or_none _ _ a.1 in
      (a.0, none_at 64 _ b.0, none_at 8 _ b.1)

  state_in : (s : ℕ) → s < m.states → state_beyond m.states m.observations m.successors s ≡ false → beyond m.states (successors m s) ≡ false
  unfolding state_beyond successors
  state_in s l t = rw (lt-ltb s m.states l) at t

  state_past : (s : ℕ) → m.states ≤ s → state_beyond m.states m.observations m.successors s ≡ false → (observation m s ≡ 0) × (successors m s ≡ 0)
  unfolding state_beyond successors observation
  state_past s l t =
      let q = or_none _ _ (rw (le-ltb s m.states l) at t) in
      (eqb-true _ 0 (not_false _ q.0), eqb-true _ 0 (not_false _ q.1))

  set_in : (k : ℕ) → k < m.sets → set_beyond m.states m.sets m.fairness k ≡ false → beyond m.states (fair_set m k) ≡ false
  unfolding set_beyond fair_set
  set_in k l t = rw (lt-ltb k m.sets l) at t

  set_past : (k : ℕ) → m.sets ≤ k → set_beyond m.states m.sets m.fairness k ≡ false → fair_set m k ≡ 0
  unfolding set_beyond fair_set
  set_past k l t = eqb-true _ 0 (not_false _ (rw (le-ltb k m.sets l) at t))

  not_stuck : (stuck_state m.states m.successors < 64 → ⊥) → (s : ℕ) → s < 64 → s < m.states → successors m s ≡ 0 → ⊥
  unfolding successors
  not_stuck h s q l e = none_is_empty 64 m.states m.successors h s q l e

  pub well_machine : limit ≤ 8 → counts_ok limit m.states m.sets ≡ true → content_validity i m ≡ valid → WellMachine limit m
  unfolding starts moves in_fair_set
  well_machine small counts content =
      let t = tests content in
      let q = parts t.0 in
      let n = counts_at limit m.states m.sets counts in
      record {
        states_low = n.0;
        states_high = n.1;
        sets_low = n.2;
        sets_high = n.3;
        start_bits = beyond_none m.states m.start q.0;
        move_bits = λ s b l. beyond_none _ _ (state_in s l (q.1 s (omega (arith, n.1)))) b;
        set_bits = λ k b l. beyond_none _ _ (set_in k l (q.2 k (omega (arith, n.3)))) b;
        observation_zero = λ s l h. (state_past s l (q.1 s h)).0;
        successors_zero = λ s l h. (state_past s l (q.1 s h)).1;
        fairness_zero = λ k l h. set_past k l (q.2 k h);
        has_start = t.1;
        has_move = λ s l. not_stuck t.2 s (omega (arith, n.1)) l;
      }

-- ---- one machine by itself
-- its number in a pair makes no difference to whether it is refused
content_valid : (i j : ℕ) (m : Machine) → content_validity i m ≡ valid → content_validity j m ≡ valid
unfolding content_validity
content_valid i j m e =
    let a = valid_next (is_beyond_counts m) _ _ e in
    let b = valid_next (eqb m.start 0) _ _ a.1 in
    let c = valid_next (ltb (stuck_state m.states m.successors) 64) _ _ b.1 in
    rw (a.0, b.0, c.0)

taken : (m : Machine) (i : ℕ) → counts_ok 8 m.states m.sets ≡ true → content_validity i m ≡ valid → machine_validity 8 m ≡ valid
unfolding machine_validity
taken m i t v = rw t (content_valid i 0 m v)

-- each machine of a pair that nothing refuses is taken by a call on one machine of 1 to 8 sets
pub both_valid : (p : Pair) → pair_validity p ≡ valid → (machine_validity 8 p.concrete ≡ valid) × (machine_validity 8 p.abstraction ≡ valid)
both_valid p e =
    let q = tests_passed false p e in
    let c = counts_at 7 _ _ q.abstract_counts in (
      taken p.concrete 0 q.concrete_counts (sym (content_only 0 p.concrete) ∙ q.concrete),
      taken p.abstraction 1 (counts_of 8 _ _ c.0 c.1 c.2 (omega (arith, c.3))) (sym (content_only 1 p.abstraction) ∙ q.abstraction),
    )

-- and what one that is taken gives
pub valid_machine : (limit : ℕ) (m : Machine) → limit ≤ 8 → machine_validity limit m ≡ valid → WellMachine limit m
unfolding machine_validity
valid_machine limit m h e = let t = valid_if _ _ _ e in well_machine limit 0 m h t.0 t.1

-- a mask that a program holds, with no state at or past n, is a number of n bits
pub bits_small : (n mask : ℕ) → mask < 2 ^ 64 → ((i : ℕ) → i < 64 → has_bit mask i ≡ true → i < n) → mask < 2 ^ n
bits_small n mask h b = has_small 64 n mask h (λ i l k. refute _ (λ t. absurd (omega (arith, b i k t))))

-- ---- a pair
pub record WellPair (p : Pair) : Type 0 where
  pub concrete : WellMachine 8 p.concrete
  pub abstraction : WellMachine 7 p.abstraction

pub well_valid : (p : Pair) → pair_validity p ≡ valid → WellPair p
well_valid p e =
    let h = tests_passed false p e in
    record {
      concrete = well_machine 8 0 p.concrete (omega arith) h.concrete_counts (sym (content_only 0 p.concrete) ∙ h.concrete);
      abstraction = well_machine 7 1 p.abstraction (omega arith) h.abstract_counts (sym (content_only 1 p.abstraction) ∙ h.abstraction);
    }

pub well_pair : (p : Pair) → well_formed p ≡ true → WellPair p
unfolding well_formed
well_pair p t = well_valid p (is_valid_lem _ t)

pub well_is_valid : (p : Pair) → well_formed p ≡ true → pair_validity p ≡ valid
unfolding well_formed
well_is_valid p t = is_valid_lem _ t

pub valid_is_well : (p : Pair) → pair_validity p ≡ valid → well_formed p ≡ true
unfolding well_formed
valid_is_well p e = valid_is _ e

pub mul_bound : (a b m n : ℕ) → a ≤ m → b ≤ n → a * b ≤ m * n
mul_bound a b m n p q = le_trans (mul-le-mul_right b p) (mul-le-mul_left m q)

-- the bounds of products: P, m × P and n × P
pub some_pairs : (p : Pair) → WellPair p → 0 < pairs p
some_pairs p w = mul-pos w.concrete.states_low w.abstraction.states_low

pub pairs_small : (p : Pair) → WellPair p → pairs p ≤ 4096
pairs_small p w = mul_bound (n_c p) (n_a p) 64 64 w.concrete.states_high w.abstraction.states_high

pub ranks_small : (p : Pair) → WellPair p → sets_c p * pairs p ≤ 32768
ranks_small p w = mul_bound (sets_c p) (pairs p) 8 4096 w.concrete.sets_high (pairs_small p w)

pub entries_small : (p : Pair) → WellPair p → sets_a p * pairs p ≤ table_room
entries_small p w = mul_bound (sets_a p) (pairs p) 7 4096 w.abstraction.sets_high (pairs_small p w)

-- section j lies within a table of 28,672 entries
pub section_fits : (p : Pair) → WellPair p → (j : ℕ) → j < sets_a p → j * pairs p + pairs p ≤ table_room
section_fits p w j h = omega (arith, mul-le-mul_right (pairs p) h, entries_small p w)

-- ---- the refusals of a pair: 5 where the counts are wrong, and 9 to 11
module _ (F : Refusal → Type 0) (late : (r : Refusal) → 9 ≤ number_of r → number_of r ≤ 11 → F r) where
  content_refuses : (i : ℕ) (m : Machine) → RefusesOnly F (content_validity i m)
  unfolding content_validity
  content_refuses i m =
      let s = stuck_state m.states m.successors in
      refuses_cond F (is_beyond_counts m) _ _ (λ t. refuses_at F _ (late (BeyondCounts i) (omega arith) (omega arith)))
      (λ t. refuses_cond F (eqb m.start 0) _ _ (λ u. refuses_at F _ (late (NoStart i) (omega arith) (omega arith)))
      (λ u. refuses_cond F (ltb s 64) _ _ (λ x. refuses_at F _ (late (NoSuccessor i s) (omega arith) (omega arith))) (λ x. refuses_none F)))

  pub pair_refuses : (p : Pair) → (and (counts_ok 8 (n_c p) (sets_c p)) (counts_ok 7 (n_a p) (sets_a p)) ≡ false → F BadCounts) → RefusesOnly F (pair_validity p)
  unfolding pair_tests content_tests
  pair_refuses p wrong =
      refuses_cond F (and (counts_ok 8 (n_c p) (sets_c p)) (counts_ok 7 (n_a p) (sets_a p))) _ _
      (λ t. refuses_then F _ _ (content_refuses 0 p.concrete) (λ v. content_refuses 1 p.abstraction))
      (λ t. refuses_at F _ (wrong t))
