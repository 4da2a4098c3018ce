-- The player's run is right: its rule's end comes in time, and what stands between is a fair lasso.
use Rattle.std.proofs.Math.Bool.{Bool}
use Rattle.std.specs.Prelude.{true, false, List, ◌≡◌, refl, get_or, take, drop}
use Rattle.std.proofs.Math.Logic.{⊎_elim, by_cases}
use Rattle.std.proofs.Math.Path.{sym}
use Rattle.std.proofs.Common.{ap, ◌∙◌, le_trans, mul-le-mul_left, mul-le-mul_right, arith}
use Prim.Native.Nat.{ℕ, zero, suc, ◌+◌, ◌-◌, ◌*◌, ◌≤◌, ◌<◌}
use Rattle.std.proofs.Math.Decide.{dec_lt}
use Rattle.std.proofs.Math.ListN.{length}
use borrow.Author.Tests.{eqb-true, eq-eqb, ne_eqb, ltb-false, leb-false}
use Rattle.mask.specs.LogicLaws.{dec, clash, and_l, and_r, and_i, or_none, not_i, not_false}
use Rattle.mask.specs.Bounded.{first, some}
use Rattle.mask.specs.BoundedLaws.{first_before, first_has, first_most, some_of, some_at, every_of}
use Rattle.mask.specs.TablesLaws.{table_length, table_at}
use Rattle.machine.specs.declared.Machine.{Machine}
use Rattle.machine.specs.declared.Pair.{Pair}
use Rattle.machine.specs.Refusals.{valid}
use Rattle.machine.specs.Machines.{n_a, sets_a, moves}
use Rattle.machine.specs.Lassos.{Lasso, lasso_length, moment, is_fair, is_play}
use Rattle.machine.specs.Step.{found}
use Rattle.machine.specs.Lines.{passes_each}
use Rattle.machine.specs.LinesLaws.{valid_passes}
use Rattle.machine.specs.WellFormedLaws.{WellPair, well_valid}
use Rattle.machine.specs.Player.{bad_step, missed_set, lasso_validity, start_partner, start_validity, place_at, loop_start, same_place, last_round, earlier_round, stem_length, loop_length, run, run_room, play_validity}
use Rattle.machine.specs.LassosLaws.{lasso_of_lem}
use Rattle.machine.specs.PlayerLaws.{good_length, Entered}
use Rattle.machine.specs.RefusalsLaws.{valid_next, valid_if, then_answer}
use Rattle.soundness.specs.Statements.{IsRun}
use Rattle.soundness.specs.Plays.{run_between}
use Rattle.soundness.specs.PlayLaws.{play_at, play_parts, start_of, table_cut}
use Rattle.soundness.specs.AnswerLaws.{Covered}
use Rattle.soundness.specs.SoundLaws.{rounds_between, place_eq, covered_at, returns, closes, agrees}

-- ---- a lasso that is not refused is a play of at most 64 states
module _ (m : Machine) (l : Lasso) where
  -- what is right at position i
  pub record GoodStep (i : ℕ) : Type 0 where
    pub bound : moment l i < m.states
    pub entry : Entered m l i
    pub closing : suc i ≡ lasso_length l → moves m (moment l i) (moment l (suc i)) ≡ true

  good_step : (i : ℕ) → bad_step m l i ≡ false → GoodStep i
  unfolding bad_step
  good_step i t =
      let a = or_none _ _ t in
      let b = or_none _ _ a.1 in
      record {
        bound = leb-false _ _ a.0;
        entry = record { start = λ e. not_false _ (rw (eq-eqb i 0 e) at b.0); entered = λ e. not_false _ (rw (ne_eqb i 0 e) at b.0) };
        closing = λ e. ⊎_elim (λ u. u) (λ u. absurd (clash b.1 (and_i (eq-eqb _ _ e) (not_i u)))) (dec (moves m (moment l i) (moment l (suc i))));
      }

  -- no position is wrong, and no set is missed
  pub record GoodLasso : Type 0 where
    pub some_loop : 0 < length l.loop
    pub short : lasso_length l ≤ 64
    pub right : (i : ℕ) → i < lasso_length l → GoodStep i
    pub fair : is_fair m l ≡ true

  good_fair : ((k : ℕ) → k < m.sets → missed_set m l k ≡ false) → is_fair m l ≡ true
  unfolding is_fair missed_set
  good_fair h = every_of _ _ (λ k b. not_false _ (h k b))

  pub good_lasso : lasso_validity m l ≡ valid → GoodLasso
  unfolding lasso_validity
  good_lasso e =
      let a = valid_next _ _ _ e in
      let b = valid_next _ _ _ a.1 in
      let c = valid_next _ _ _ b.1 in
      let long = good_length l a.0 in
      let steps : lasso_length l ≤ first (lasso_length l) (bad_step m l) = ltb-false _ _ b.0 in
      let sets : m.sets ≤ first m.sets (missed_set m l) = ltb-false _ _ c.0 in
      record {
        some_loop = long.0;
        short = long.1;
        right = λ i h. good_step i (first_before (lasso_length l) (bad_step m l) i (omega arith));
        fair = good_fair (λ k h. first_before m.sets (missed_set m l) k (omega arith));
      }

  pub good_play : GoodLasso → is_play m l ≡ true
  good_play g = play_parts m l (lasso_of_lem m l g.some_loop (λ t h. ((g.right t h).bound, moved t h))) g.fair
      (start_of m l ((g.right 0 (omega (arith, g.some_loop))).entry.start refl))
    where
      moved : (t : ℕ) → t < lasso_length l → moves m (moment l t) (moment l (suc t)) ≡ true
      moved t h = by_cases (dec_lt (suc t) (lasso_length l))
          (λ q. let e : suc t - 1 ≡ t = omega arith in rw e at ((g.right (suc t) q).entry.entered (λ z. omega arith)))
          (λ q. (g.right t h).closing (omega arith))

module _ (p : Pair) (T : List ℕ) (l : Lasso) where
  -- ---- what is known where nothing is refused
  pub record Playable : Type 0 where
    pub well : WellPair p
    pub passing : passes_each p T ≡ true
    pub good : GoodLasso p.concrete l
    pub partnered : found (start_partner p T (moment l 0)) ≡ true

  pub playable : play_validity p T l ≡ valid → Playable
  unfolding play_validity start_validity
  playable e =
      let a = then_answer _ _ e in
      let b = then_answer _ _ a.1 in
      let c = then_answer _ _ b.1 in
      record {
        well = well_valid p a.0;
        passing = valid_passes p T b.0;
        good = good_lasso p.concrete l c.0;
        partnered = (valid_if _ _ _ c.1).0;
      }

  -- ---- places
  same_at : (x y : ℕ) → same_place p T l x y ≡ true → place_at p T l (loop_start p T l x) ≡ place_at p T l (loop_start p T l y)
  unfolding same_place
  same_at x y t = place_eq _ _ (eqb-true _ _ (and_l _ _ t)) (eqb-true _ _ (and_r _ _ t))

  same_of : (x y : ℕ) → place_at p T l (loop_start p T l x) ≡ place_at p T l (loop_start p T l y) → same_place p T l x y ≡ true
  unfolding same_place
  same_of x y e = and_i (eq-eqb _ _ (ap (λ at. at.state) e)) (eq-eqb _ _ (ap (λ at. at.section) e))

  -- the rounds at which the rule ends
  record Rounds : Type 0 where
    soon : last_round p T l ≤ 448
    order : earlier_round p T l < last_round p T l
    same : same_place p T l (earlier_round p T l) (last_round p T l) ≡ true

  rounds_of : (x y : ℕ) → x < y → y ≤ 448 → same_place p T l x y ≡ true → Rounds
  unfolding last_round earlier_round
  rounds_of x y h b t =
      let again : ℕ → Bool = λ y. some y (λ x. same_place p T l x y) in
      let z = first 449 again in
      let last : z ≤ y = first_most 449 again y (some_of y (λ x. same_place p T l x y) x h t) in
      let q = some_at z (λ x. same_place p T l x z) (first_has 449 again (omega arith)) in
      let early = first_most z (λ x. same_place p T l x z) q.0 q.2 in
      record { soon = omega arith; order = omega (arith, early, q.1); same = first_has z (λ x. same_place p T l x z) (omega (arith, early, q.1)) }

  run_length : length (run p T l) ≡ loop_start p T l (last_round p T l)
  unfolding run
  run_length = table_length (loop_start p T l (last_round p T l)) (λ t. (place_at p T l t).state)

  pub run_states : (t : ℕ) → t < length (run p T l) → get_or (run p T l) t 0 ≡ (place_at p T l t).state
  unfolding run
  run_states t h = table_at (loop_start p T l (last_round p T l)) (λ t. (place_at p T l t).state) t 0 (omega (arith, run_length))

  parts : earlier_round p T l < last_round p T l → loop_start p T l (last_round p T l) ≡ stem_length p T l + loop_length p T l
  unfolding stem_length loop_length
  parts h = sym (rounds_between (length l.stem) (length l.loop) (earlier_round p T l) (last_round p T l) (omega arith))

  -- the run, cut after its stem
  abbrev cut_run : Lasso
  cut_run = record { stem = take (stem_length p T l) (run p T l); loop = drop (stem_length p T l) (run p T l) }

  cut : earlier_round p T l < last_round p T l → cut_run ≡ run_between p T l (earlier_round p T l) (last_round p T l)
  unfolding run stem_length
  cut h =
      let x = earlier_round p T l in
      let z = last_round p T l in
      rw (sym (rounds_between (length l.stem) (length l.loop) x z (omega arith)))
      (table_cut (loop_start p T l x) ((z - x) * length l.loop) (λ t. (place_at p T l t).state))

-- wherever the rule leads, the table covers the pair
pub playable_covered : {p : Pair} {T : List ℕ} {l : Lasso} → Playable p T l → (t : ℕ) → Covered p T (moment l t) (place_at p T l t)
playable_covered {p} {T} {l} k = covered_at p T k.well k.passing l (play_at p.concrete l (good_play p.concrete l k.good)) k.partnered

-- 448 rounds of a lasso of at most 64 states fit the buffer
room : (stem loop rounds : ℕ) → stem + loop ≤ 64 → rounds ≤ 448 → 0 < rounds → stem + rounds * loop ≤ run_room
room stem loop zero h b z = absurd (omega arith)
room stem loop (suc n) h b z =
    let small : n * loop ≤ n * 64 = mul-le-mul_left n (omega arith) in
    omega arith

pub player_run : (p : Pair) (T : List ℕ) (l : Lasso) → Playable p T l → IsRun p T l
player_run p T l k =
    let y = play_at p.concrete l (good_play p.concrete l k.good) in
    let two = returns p T k.well k.passing l y k.partnered in
    let few : n_a p * sets_a p ≤ 448 =
    le_trans (mul-le-mul_right (sets_a p) k.well.abstraction.states_high) (mul-le-mul_left 64 k.well.abstraction.sets_high) in
    let r = rounds_of p T l two.0 two.1 two.2 (omega (arith, two.3)) (same_of p T l two.0 two.1 two.4) in
    let x = earlier_round p T l in
    let z = last_round p T l in
    let same = same_at p T l x z r.same in
    record {
      soon = r.soon;
      order = r.order;
      returns = r.same;
      fits = rw (run_length p T l) (room (length l.stem) (length l.loop) z k.good.short r.soon (omega (arith, r.order)));
      whole = run_length p T l ∙ parts p T l r.order;
      fair = rw (cut p T l r.order) (closes p T k.well k.passing l y k.partnered x z r.order same);
      agrees = rw (cut p T l r.order) (agrees p T k.well k.passing l y k.partnered x z r.order same);
    }
