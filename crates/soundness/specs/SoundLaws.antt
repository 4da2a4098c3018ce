-- Carried is sound. The player's rule answers every move of an endless play of the concrete machine; the answers close to a fair lasso at any
-- two loop starts with the same place, and there are two.
use Rattle.std.specs.Prelude.{true, cond, List, ◌≡◌, eqb}
use Rattle.std.proofs.Math.Path.{refl, ap}
use Rattle.std.proofs.Common.{sym, ap₂, ◌∙◌, add-suc, add-zero, mul-pos, eqb-true, eq-eqb}
use Prim.Native.Nat.{ℕ, zero, suc, ◌+◌, ◌-◌, ◌*◌, ◌/◌, ◌%◌, ◌≤◌, ◌<◌}
use native.Mathlib.Omega.{arith}
use Rattle.std.proofs.Math.Arith.{digits_lt, digits_div, digits_mod}
use Rattle.std.proofs.Math.ListN.{length}
use Rattle.machine.specs.declared.Pair.{Pair}
use Rattle.machine.specs.Machines.{n_a, sets_c, sets_a, successors, starts, in_fair_set, matched, next}
use Rattle.machine.specs.Lassos.{Lasso, moment, is_play, SameObservations}
use Rattle.machine.specs.Step.{found}
use Rattle.machine.specs.SingleStep.{Best, Chosen}
use Rattle.machine.specs.Table.{entry}
use Rattle.machine.specs.Ranks.{set_of}
use Rattle.machine.specs.LevelLaws.{set_lt}
use Rattle.machine.specs.Lines.{non_blank, passes_each}
use Rattle.machine.specs.LinesLaws.{non_blank_at}
use Rattle.machine.specs.WellFormedLaws.{WellPair}
use Rattle.machine.specs.Player.{Place, start_partner, section_after, step_to, place_at, loop_start}
use Rattle.soundness.specs.Pigeonhole.{pigeonhole}
use Rattle.soundness.specs.Cycle.{zero_met, sections_met}
use Rattle.soundness.specs.Plays.{run_between, Again, Play}
use Rattle.soundness.specs.PlayLaws.{again_times, moment_again, fair_round, lasso_of_moment, lasso_of_play}
use Rattle.soundness.specs.AnswerLaws.{Covered, entry_at, Answer, passing_at, step_answers, step_chosen, start_best, start_place}

-- from the loop start after x rounds to that after z rounds
pub rounds_between : (stem loop x z : ℕ) → x ≤ z → stem + x * loop + (z - x) * loop ≡ stem + z * loop
rounds_between stem loop x z h = let e : z ≡ x + (z - x) = omega arith in omega (arith, ap (λ n. n * loop) e)

-- a place is its state and its section
pub place_eq : (u v : Place) → u.state ≡ v.state → u.section ≡ v.section → u ≡ v
place_eq u v e f = λ i. record { state = e i; section = f i }

-- ---- the rule along an endless play
module _ (p : Pair) (T : List ℕ) (w : WellPair p) (passing : passes_each p T ≡ true) (l : Lasso) (y : Play p.concrete l)
    (partnered : found (start_partner p T (moment l 0)) ≡ true) where
  answered_from : (t : ℕ) → Covered p T (moment l t) (place_at p T l t) → Answer p T (moment l t) (moment l (suc t)) (place_at p T l t) (place_at p T l (suc t))
  unfolding place_at
  answered_from t h = step_answers p T w passing (moment l t) (moment l (suc t)) (place_at p T l t) (y.bound t) h (y.bound (suc t)) (y.step t)

  pub covered_at : (t : ℕ) → Covered p T (moment l t) (place_at p T l t)
  unfolding place_at
  covered_at zero = (start_place p T w passing (moment l 0) partnered).0
  covered_at (suc t) = (answered_from t (covered_at t)).again

  pub answered : (t : ℕ) → Answer p T (moment l t) (moment l (suc t)) (place_at p T l t) (place_at p T l (suc t))
  answered t = answered_from t (covered_at t)

  -- each state after the first is the one that the single step chooses
  pub follows : (t : ℕ) → let a = (place_at p T l t).state in let to = place_at p T l (suc t) in let d = moment l (suc t) in
      Chosen a (successors p.abstraction a) (non_blank p T to.section d) (entry p T to.section d) to.state
  unfolding place_at
  follows t = step_chosen p T w passing (moment l t) (moment l (suc t)) (place_at p T l t) (y.bound t) (covered_at t) (y.bound (suc t)) (y.step t)

  pub starts_lowest : let c = moment l 0 in Best p.abstraction.start (non_blank p T 0 c) (entry p T 0 c) (place_at p T l 0).state
  unfolding place_at
  starts_lowest = start_best p T w passing (moment l 0) partnered

  started : starts p.abstraction (place_at p T l 0).state ≡ true
  unfolding place_at
  started = (start_place p T w passing (moment l 0) partnered).1

  sections : (t : ℕ) → (place_at p T l (suc t)).section
      ≡ cond (eqb (entry_at p T (moment l t) (place_at p T l t)) 0) (next (sets_a p) (place_at p T l t).section) (place_at p T l t).section
  unfolding place_at step_to section_after
  sections t = refl

  -- a stretch of N moments from u on that ends as it began, and in which each concrete set is met, meets each abstract set
  fair_stretch : (u N : ℕ) → moment l u ≡ moment l (u + N) → place_at p T l u ≡ place_at p T l (u + N)
      → ((k : ℕ) → k < sets_c p → (i : ℕ) × (i < N) × (in_fair_set p.concrete k (moment l (u + i)) ≡ true))
      → (s : ℕ) → s < sets_a p → (i : ℕ) × (i < N) × (in_fair_set p.abstraction s (place_at p T l (u + i)).state ≡ true)
  fair_stretch u N ec ep met s hs =
      let e : ℕ → ℕ = λ i. entry_at p T (moment l (u + i)) (place_at p T l (u + i)) in
      let z = zero_met e (λ r i. in_fair_set p.concrete (set_of (sets_c p) r) (moment l (u + i))) N
      (λ i h. rw add-suc (answered (u + i)).stays) (λ i h. rw add-suc (answered (u + i)).falls)
      (rw (add-zero u) (ap₂ (entry_at p T) ec ep)) (met (set_of (sets_c p) (e 0)) (set_lt (sets_c p) (e 0) w.concrete.sets_low)) in
      let g = sections_met (sets_a p) (λ i. (place_at p T l (u + i)).section) (λ i. eqb (e i) 0) N
      (λ i. (covered_at (u + i)).section_bound) (λ i h. rw add-suc (sections (u + i)))
      (rw (add-zero u) (ap (λ at. at.section) ep)) (z.0, z.1, eq-eqb _ _ z.2) s hs in
      let t = u + g.0 in
      let goal = (passing_at p T w passing (moment l t) (place_at p T l t) (y.bound t) (covered_at t)).in_set (eqb-true _ _ g.2) in
      (g.0, g.1, rw g.3 at goal)

  -- ---- two loop starts with the same place
  module _ (x z : ℕ) (order : x < z) (same : place_at p T l (loop_start p T l x) ≡ place_at p T l (loop_start p T l z)) where
    span_some : 0 < (z - x) * length l.loop
    span_some = mul-pos (omega arith) y.some_loop

    moment_span : (t : ℕ) → loop_start p T l x ≤ t → moment l (t + (z - x) * length l.loop) ≡ moment l t
    moment_span t h = again_times (length l.stem) (length l.loop) (moment l) (moment_again l) (z - x) t (omega arith)

    -- the rule goes on after the later as it did after the earlier
    place_on : (i : ℕ) → place_at p T l (loop_start p T l x + i + (z - x) * length l.loop) ≡ place_at p T l (loop_start p T l x + i)
    unfolding place_at
    place_on zero =
        rw (add-zero, rounds_between (length l.stem) (length l.loop) x z (omega arith)) (sym same)
    place_on (suc i) =
        let t = loop_start p T l x + i in
        let d = (z - x) * length l.loop in
        let next_moment : moment l (suc (t + d)) ≡ moment l (suc t) = ap (moment l) (omega arith) ∙ moment_span (suc t) (omega arith) in
        let on : step_to p T (moment l (t + d)) (place_at p T l (t + d)) (moment l (suc (t + d))) ≡ step_to p T (moment l t) (place_at p T l t) (moment l (suc t)) =
        rw (moment_span t (omega arith), next_moment, place_on i) in
        let late : loop_start p T l x + suc i + d ≡ suc (t + d) = omega arith in
        rw (late, add-suc) on

    place_again : Again (loop_start p T l x) ((z - x) * length l.loop) (place_at p T l)
    place_again t h =
        let e : loop_start p T l x + (t - loop_start p T l x) ≡ t = omega arith in
        rw e at (place_on (t - loop_start p T l x))

    state_again : Again (loop_start p T l x) ((z - x) * length l.loop) (λ t. (place_at p T l t).state)
    state_again t h = ap (λ at. at.state) (place_again t h)

    -- each concrete set is met in the first of the rounds between
    met_between : (k : ℕ) → k < sets_c p
        → (i : ℕ) × (i < (z - x) * length l.loop) × (in_fair_set p.concrete k (moment l (loop_start p T l x + i)) ≡ true)
    met_between k h =
        let f = fair_round p.concrete l y.fair x k h in
        let some_round : z - x ≡ suc (z - suc x) = omega arith in
        (f.0, omega (arith, f.1, ap (λ n. n * length l.loop) some_round), f.2)

    -- the run's loop between the two is fair
    fair_between : (s : ℕ) → s < sets_a p → (t : ℕ) × (loop_start p T l x ≤ t) × (in_fair_set p.abstraction s (place_at p T l t).state ≡ true)
    fair_between s h =
        let d = (z - x) * length l.loop in
        let u = loop_start p T l x in
        let g = fair_stretch u d (sym (moment_span u (omega arith))) (sym (place_again u (omega arith))) met_between s h in
        (u + g.0, omega arith, g.2)

    -- the run, with its stem before the earlier and its loop up to the later, is a fair lasso from a start state
    pub closes : is_play p.abstraction (run_between p T l x z) ≡ true
    closes = lasso_of_play p.abstraction (loop_start p T l x) ((z - x) * length l.loop) (λ t. (place_at p T l t).state) span_some state_again
        (λ t. (covered_at t).bound) (λ t. (answered t).moved) fair_between started

    -- and has the same observation at every moment
    pub agrees : SameObservations p.hidden p.concrete l p.abstraction (run_between p T l x z)
    unfolding SameObservations matched
    agrees t =
        rw (lasso_of_moment (loop_start p T l x) ((z - x) * length l.loop) (λ t. (place_at p T l t).state) span_some state_again t)
        (non_blank_at p T (place_at p T l t).section (moment l t) (place_at p T l t).state (covered_at t).covered).0

  -- there are two such loop starts among the first nA × n + 1: a and j have no more values together
  number_of_place : ℕ → ℕ
  number_of_place t = (place_at p T l t).state * sets_a p + (place_at p T l t).section

  number_same : (t u : ℕ) → number_of_place t ≡ number_of_place u → place_at p T l t ≡ place_at p T l u
  unfolding number_of_place
  number_same t u e =
      let v = place_at p T l t in
      let w = place_at p T l u in
      place_eq v w
      (sym (digits_div v.state (covered_at t).section_bound) ∙ ap (λ n. n / sets_a p) e ∙ digits_div w.state (covered_at u).section_bound)
      (sym (digits_mod v.state (covered_at t).section_bound) ∙ ap (λ n. n % sets_a p) e ∙ digits_mod w.state (covered_at u).section_bound)

  pub returns : (x : ℕ) × (z : ℕ) × (x < z) × (z ≤ n_a p * sets_a p) × (place_at p T l (loop_start p T l x) ≡ place_at p T l (loop_start p T l z))
  unfolding number_of_place
  returns =
      let two = pigeonhole (n_a p * sets_a p) (λ x. number_of_place (loop_start p T l x))
      (λ x h. digits_lt (covered_at (loop_start p T l x)).bound (covered_at (loop_start p T l x)).section_bound) in
      (two.0, two.1, two.2, two.3, number_same _ _ two.4)
