-- Laws of the marks: a mark that is met tells the two loop starts between which the run closes.
use Rattle.std.specs.Prelude.{true, List, Option, Some, None, ◌≡◌, ℕ, suc, ◌+◌, ◌*◌, ◌/◌, ◌%◌, ◌≤◌, ◌<◌, length, get_or, set}
use Rattle.std.proofs.Math.Logic.{by_cases}
use Rattle.std.proofs.Math.Path.{sym, ap₂}
use Rattle.std.proofs.Common.{ap, ◌∙◌, mod-eq_of_lt, arith, length-set, get_or-set_same, get_or-set_other, eqb-true, eq-eqb}
use Rattle.std.proofs.Math.Decide.{dec_lt, ℕ_discrete}
use Rattle.std.proofs.Math.Arith.{digits_lt, digits_div, digits_mod}
use Rattle.std.proofs.lemmas.Option.{none-some, same_Some}
use Rattle.mask.specs.LogicLaws.{clash, refute, and_l, and_r, and_i, below_suc}
use Rattle.mask.specs.Bounded.{some}
use Rattle.mask.specs.BoundedLaws.{first_is, first_before, some_of}
use Rattle.machine.specs.declared.Pair.{Pair}
use Rattle.machine.specs.Lassos.{Lasso}
use Rattle.machine.specs.Player.{place_at, loop_start, same_place, last_round, earlier_round}
use Rattle.soundness.specs.Statements.{IsRun}
use Rattle.soundness.specs.PlayerLaws.{Playable, playable_covered, player_run}
use Rattle.player.specs.Places.{number_of, place_number, Marks}

-- ---- the number of a state and a section
pub number_low : (a j : ℕ) → number_of a j < 448
unfolding number_of
number_low a j = digits_lt {m = 64} {c = 7} (omega arith) (omega arith)

-- below 64 and 7 it is theirs alone
number_one : (a j b i : ℕ) → a < 64 → j < 7 → b < 64 → i < 7 → number_of a j ≡ number_of b i → (a ≡ b) × (j ≡ i)
unfolding number_of
number_one a j b i ha hj hb hi e =
    let f : a * 7 + j ≡ b * 7 + i = rw (mod-eq_of_lt ha, mod-eq_of_lt hj, mod-eq_of_lt hb, mod-eq_of_lt hi) at e in
    (sym (digits_div a hj) ∙ ap (λ n. n / 7) f ∙ digits_div b hi, sym (digits_mod a hj) ∙ ap (λ n. n % 7) f ∙ digits_mod b hi)

module _ {p : Pair} {T : List ℕ} {l : Lasso} (k : Playable p T l) where
  -- ---- numbers of places
  number_lt : (x : ℕ) → place_number p T l x < 448
  unfolding place_number
  number_lt x = let at = place_at p T l (loop_start p T l x) in number_low at.state at.section

  number_same : (x y : ℕ) → place_number p T l x ≡ place_number p T l y → same_place p T l x y ≡ true
  unfolding place_number same_place
  number_same x y e =
      let u = playable_covered k (loop_start p T l x) in
      let v = playable_covered k (loop_start p T l y) in
      let w = k.well.abstraction in
      let same = number_one _ _ _ _ (omega (arith, u.bound, w.states_high)) (omega (arith, u.section_bound, w.sets_high))
      (omega (arith, v.bound, w.states_high)) (omega (arith, v.section_bound, w.sets_high)) e in
      and_i (eq-eqb _ _ same.0) (eq-eqb _ _ same.1)

  same_number : (x y : ℕ) → same_place p T l x y ≡ true → place_number p T l x ≡ place_number p T l y
  unfolding place_number same_place
  same_number x y t = ap₂ number_of (eqb-true _ _ (and_l _ _ t)) (eqb-true _ _ (and_r _ _ t))

  -- ---- the rule's end
  is_run : IsRun p T l
  is_run = player_run p T l k

  -- no two loop starts before the last have the same place
  apart : (x y : ℕ) → x < y → y < last_round p T l → place_number p T l x ≡ place_number p T l y → ⊥
  unfolding last_round
  apart x y h b e = clash (first_before 449 (λ y. some y (λ x. same_place p T l x y)) y b) (some_of y (λ x. same_place p T l x y) x h (number_same x y e))

  pub ends_at : (x y : ℕ) → x < y → y ≤ last_round p T l → place_number p T l x ≡ place_number p T l y
      → (last_round p T l ≡ y) × (earlier_round p T l ≡ x)
  unfolding earlier_round
  ends_at x y h b e =
      let last : last_round p T l ≡ y = by_cases (dec_lt y (last_round p T l)) (λ q. absurd (apart x y h q e)) (λ q. omega arith) in (
        last,
        rw last (first_is y (λ z. same_place p T l z y) x h (number_same x y e)
            (λ z q. refute (same_place p T l z y) (λ t. apart z x q (omega arith) (same_number z y t ∙ sym e)))),
      )

  pub goes_on : (y : ℕ) → y ≤ last_round p T l → ((x : ℕ) → x < y → place_number p T l x ≡ place_number p T l y → ⊥) → y < last_round p T l
  goes_on y b none = by_cases (dec_lt y (last_round p T l)) (λ q. q)
      (λ q.
      let e : last_round p T l ≡ y = omega arith in
      absurd (none (earlier_round p T l) (omega (arith, is_run.order)) (rw e at (same_number (earlier_round p T l) (last_round p T l) is_run.returns))))

  -- ---- marks
  pub no_marks : (marks : List (Option ℕ)) → length marks ≡ 448 → ((i : ℕ) → i < 448 → get_or marks i None ≡ None) → Marks p T l 0 marks
  no_marks marks e z = record {
    long = e;
    marked = λ x h. absurd (omega arith);
    no_other = λ i x h t. absurd (none-some x (sym (z i h) ∙ t));
  }

  module _ {n : ℕ} {marks : List (Option ℕ)} (m : Marks p T l n marks) where
    -- the mark of the next loop start is that of an earlier one with the same place, or there is none
    pub mark_met : (x : ℕ) → n ≤ last_round p T l → get_or marks (place_number p T l n) None ≡ Some x → (last_round p T l ≡ n) × (earlier_round p T l ≡ x)
    mark_met x b t = let q = m.no_other (place_number p T l n) x (number_lt n) t in ends_at x n q.0 b q.1

    unlike : get_or marks (place_number p T l n) None ≡ None → (x : ℕ) → x < n → place_number p T l x ≡ place_number p T l n → ⊥
    unlike z x h e = none-some x (sym z ∙ ap (λ (i : ℕ). get_or marks i None) (sym e) ∙ m.marked x h)

    pub mark_none : n ≤ last_round p T l → get_or marks (place_number p T l n) None ≡ None → n < last_round p T l
    mark_none b z = goes_on n b (unlike z)

    pub mark_more : get_or marks (place_number p T l n) None ≡ None → Marks p T l (suc n) (set marks (place_number p T l n) (Some n))
    mark_more z =
        let i = place_number p T l n in
        let fits : i < length marks = omega (arith, m.long, number_lt n) in
        record {
          long = length-set marks i (Some n) ∙ m.long;
          marked = below_suc n (λ x. get_or (set marks i (Some n)) (place_number p T l x) None ≡ Some x)
              (λ x h. get_or-set_other marks i (place_number p T l x) (Some n) None (λ e. unlike z x h e) ∙ m.marked x h)
              (get_or-set_same marks i (Some n) None fits);
          no_other = λ k x h t. by_cases (ℕ_discrete k i)
              (λ e.
              let v : get_or (set marks i (Some n)) k None ≡ Some n = rw e (get_or-set_same marks i (Some n) None fits) in
              let s : n ≡ x = same_Some n x (sym v ∙ t) in
              (omega arith, rw (← s) (sym e)))
              (λ e. let q = m.no_other k x h (sym (get_or-set_other marks i k (Some n) None e) ∙ t) in (omega (arith, q.0), q.1));
        }
