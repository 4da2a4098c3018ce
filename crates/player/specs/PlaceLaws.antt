-- Laws of places: one step on is the rule's next moment.
use Rattle.std.specs.Prelude.{cond, List, ◌≡◌, eqb, ltb}
use Rattle.std.proofs.Math.Logic.{by_cases}
use Rattle.std.proofs.Math.Path.{refl}
use Rattle.std.proofs.Common.{sym, ap, ap₂, ◌∙◌}
use Prim.Native.Nat.{ℕ, suc, ◌+◌, ◌*◌, ◌≤◌, ◌<◌, zero-le}
use Rattle.std.proofs.Math.Nat.{suc-mul}
use Rattle.std.proofs.Math.Decide.{dec_lt}
use native.Mathlib.Omega.{arith}
use Rattle.std.proofs.Math.ListN.{length}
use borrow.Author.Tests.{eqb-true, eqb-false, eq-eqb, ne_eqb, lt-ltb, le-ltb, ltb-false}
use Rattle.mask.specs.LogicLaws.{cond_cases}
use Rattle.machine.specs.declared.Pair.{Pair}
use Rattle.machine.specs.Machines.{n_c, n_a, sets_a, successors, next}
use Rattle.machine.specs.Lassos.{Lasso, lasso_length, moment}
use Rattle.machine.specs.Step.{single_step, state_of}
use Rattle.machine.specs.Table.{entry}
use Rattle.machine.specs.Lines.{non_blank}
use Rattle.machine.specs.Player.{start_partner, section_after, follow, step_to, place_at}
use Rattle.soundness.specs.PlayLaws.{again_times, moment_again}
use Rattle.soundness.specs.PlayerLaws.{Playable, playable_covered}
use Rattle.player.specs.declared.Place.{Place}
use Rattle.player.specs.Places.{moment_of, onward, starts_before, Placed, OnPlay, Stepped}

-- ---- one position on
module _ (start whole : ℕ) (at : Place) where
  pub onward_again : suc at.position ≡ whole → onward start whole at ≡ record { position = start; a = at.a; j = at.j; round = suc at.round }
  unfolding onward
  onward_again e = rw (eq-eqb _ _ e)

  pub onward_further : (suc at.position ≡ whole → ⊥) → onward start whole at ≡ record { position = suc at.position; a = at.a; j = at.j; round = at.round }
  unfolding onward
  onward_further d = rw (ne_eqb _ _ d)

-- no loop start lies before the first position
pub before_none : (start a j : ℕ) → starts_before start (record { position = 0; a = a; j = j; round = 0 }) ≡ 0
unfolding starts_before
before_none start a j = rw (le-ltb start 0 zero-le)

module _ {l : Lasso} {at : Place} (h : Placed l at) where
  abbrev to : Place
  to = onward (length l.stem) (lasso_length l) at

  pub onward_placed : 0 < length l.loop → Placed l to
  unfolding onward
  onward_placed some_loop = cond_cases (eqb (suc at.position) (lasso_length l)) (Placed l) _ _
      (λ t. record { within = omega arith; stemmed = λ b. absurd (omega arith) })
      (λ t. record {
        within = omega (arith, h.within, eqb-false (suc at.position) (lasso_length l) t);
        stemmed = λ b. h.stemmed (omega arith);
      })

  pub onward_moment : moment_of (length l.loop) to ≡ suc (moment_of (length l.loop) at)
  unfolding onward
  onward_moment = cond_cases (eqb (suc at.position) (lasso_length l)) (λ r. moment_of (length l.loop) r ≡ suc (moment_of (length l.loop) at)) _ _
      (λ t. omega (arith, eqb-true (suc at.position) (lasso_length l) t, suc-mul at.round (length l.loop)))
      (λ t. omega arith)

  -- the concrete state beside a place is that at its position
  pub beside : moment l (moment_of (length l.loop) at) ≡ moment l at.position
  beside = by_cases (dec_lt at.position (length l.stem))
      (λ b. ap (moment l) (omega (arith, ap (λ (n : ℕ). n * length l.loop) (h.stemmed b))))
      (λ b. again_times (length l.stem) (length l.loop) (moment l) (moment_again l) at.round at.position (omega arith))

  -- ---- loop starts
  pub before_start : at.position ≡ length l.stem → starts_before (length l.stem) at ≡ at.round
  unfolding starts_before
  before_start e = rw (le-ltb (length l.stem) at.position (omega arith))

  pub before_le : at.round ≤ starts_before (length l.stem) at
  unfolding starts_before
  before_le = cond_cases (ltb (length l.stem) at.position) (λ n. at.round ≤ n) (suc at.round) at.round (λ t. omega arith) (λ t. omega arith)

  -- a place that is no loop start is in the round of the last one before it, if any
  pub before_round : (at.position ≡ length l.stem → ⊥) → (n : ℕ) → 0 < n → starts_before (length l.stem) at ≤ n → at.round < n
  unfolding starts_before
  before_round d n pos = cond_cases (ltb (length l.stem) at.position) (λ x. x ≤ n → at.round < n) (suc at.round) at.round
      (λ t b. omega arith) (λ t b. omega (arith, h.stemmed (omega (arith, ltb-false (length l.stem) at.position t))))

-- a step on passes a loop start exactly if it is made from one
module _ {p : Pair} {T : List ℕ} {l : Lasso} {at to : Place} (s : Stepped p T l at to) (some_loop : 0 < length l.loop) where
  abbrev start : ℕ
  start = length l.stem

  before_is : starts_before start to ≡ starts_before start (onward start (lasso_length l) at)
  unfolding starts_before
  before_is = rw (s.position, s.round)

  pub start_passed : at.position ≡ start → starts_before start to ≡ suc at.round
  unfolding starts_before onward
  start_passed e = before_is ∙ cond_cases (eqb (suc at.position) (lasso_length l)) (λ r. starts_before start r ≡ suc at.round) _ _
      (λ t. rw (le-ltb start start (omega arith)))
      (λ t. rw (lt-ltb start (suc at.position) (omega arith)))

  pub none_passed : (at.position ≡ start → ⊥) → starts_before start to ≡ starts_before start at
  unfolding starts_before onward
  none_passed d = before_is ∙ cond_cases (eqb (suc at.position) (lasso_length l)) (λ r. starts_before start r ≡ starts_before start at) _ _
      (λ t. rw (le-ltb start start (omega arith), lt-ltb start at.position (omega (arith, eqb-true (suc at.position) (lasso_length l) t))))
      (λ t. by_cases (dec_lt start at.position)
      (λ b. rw (lt-ltb start (suc at.position) (omega arith), lt-ltb start at.position b))
      (λ b. rw (le-ltb start (suc at.position) (omega arith), le-ltb start at.position (omega arith))))

-- ---- the rule
module _ (p : Pair) (T : List ℕ) (l : Lasso) (t : ℕ) where
  rule_section : (c j a : ℕ) → moment l t ≡ c → j ≡ (place_at p T l t).section → a ≡ (place_at p T l t).state
      → cond (eqb (entry p T j c a) 0) (next (sets_a p) j) j ≡ (place_at p T l (suc t)).section
  unfolding place_at step_to section_after
  rule_section c j a e f g = cc

  rule_state : (d j a : ℕ) → moment l (suc t) ≡ d → j ≡ (place_at p T l (suc t)).section → a ≡ (place_at p T l t).state
      → state_of (single_step a (successors p.abstraction a) (non_blank p T j d) (entry p T j d)) ≡ (place_at p T l (suc t)).state
  unfolding place_at step_to follow
  rule_state d j a e f g = cc

module _ {p : Pair} {T : List ℕ} {l : Lasso} (k : Playable p T l) where
  -- the concrete state at a position is one of the machine's
  pub beside_lt : {at : Place} → Placed l at → moment l at.position < n_c p
  beside_lt {at} h = (k.good.right at.position h.within).bound

  module _ {at : Place} (h : OnPlay p T l at) where
    pub state_lt : at.a < n_a p
    state_lt = omega (arith, h.state, (playable_covered k (moment_of (length l.loop) at)).bound)

    pub place_section_lt : at.j < sets_a p
    place_section_lt = omega (arith, h.section, (playable_covered k (moment_of (length l.loop) at)).section_bound)

    -- a place made by the rule from the states at this position and the next
    pub steps_on : (to : Place) → let o = onward (length l.stem) (lasso_length l) at in to.position ≡ o.position → to.round ≡ o.round
        → to.j ≡ cond (eqb (entry p T at.j (moment l at.position) at.a) 0) (next (sets_a p) at.j) at.j
        → to.a ≡ state_of (single_step at.a (successors p.abstraction at.a) (non_blank p T to.j (moment l to.position)) (entry p T to.j (moment l to.position)))
        → OnPlay p T l to
    steps_on to position round section state =
        let q = length l.loop in
        let t = moment_of q at in
        let ahead = onward_placed h.placed k.good.some_loop in
        let placed : Placed l to = record {
          within = omega (arith, position, ahead.within);
          stemmed = λ b. round ∙ ahead.stemmed (omega (arith, position));
        } in
        let after : moment_of q to ≡ suc t = ap₂ (λ (x y : ℕ). x + y * q) position round ∙ onward_moment h.placed in
        let c = beside h.placed in
        let d : moment l (suc t) ≡ moment l to.position = ap (moment l) (sym after) ∙ beside placed in
        let later = section ∙ rule_section p T l t (moment l at.position) at.j at.a c h.section h.state in
        record {
          placed = placed;
          state = rw after (state ∙ rule_state p T l t (moment l to.position) to.j at.a d later h.state);
          section = rw after later;
        }

  -- the rule's start
  pub start_on : (a : ℕ) → a ≡ state_of (start_partner p T (moment l 0)) → OnPlay p T l (record { position = 0; a = a; j = 0; round = 0 })
  unfolding place_at
  start_on a e =
      let z : 0 + 0 * length l.loop ≡ 0 = omega arith in
      record {
        placed = record { within = omega (arith, k.good.some_loop); stemmed = λ b. refl };
        state = rw z e;
        section = rw z;
      }
