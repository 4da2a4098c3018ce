-- Laws of the lines: a passing entry as sentences, and the first that fails.
use Rattle.std.proofs.Math.Bool.{true, false}
use Rattle.std.specs.Prelude.{cond, List, ◌≡◌, ℕ, suc, ◌+◌, ◌-◌, ◌*◌, ◌/◌, ◌≤◌, ◌<◌, eqb, leb, ltb, Err}
use Rattle.std.proofs.Math.Logic.{⊎_elim, by_cases}
use Rattle.std.proofs.Math.Path.{sym, ap}
use Rattle.std.proofs.Common.{◌∙◌, div-lt_iff_lt-mul, arith}
use Rattle.std.proofs.Math.Decide.{ℕ_discrete}
use borrow.Author.Tests.{eqb-true, eqb-false, eq-eqb, ne_eqb, leb-true, le-leb, lt-leb, ltb-true, ltb-false, lt-ltb, le-ltb}
use Rattle.mask.specs.Logic.{not, and, or}
use Rattle.mask.specs.LogicLaws.{dec, clash, both, cond_cases, and_l, and_r, and_i, or_l, or_r, or_false_l, not_e, not_i, not_f}
use Rattle.mask.specs.Bounded.{every, first}
use Rattle.mask.specs.BoundedLaws.{every_at, every_of, every_not, first_is, first_none, first_all}
use Rattle.machine.specs.declared.Pair.{Pair}
use Rattle.machine.specs.Refusals.{valid}
use Rattle.machine.specs.RefusalsLaws.{valid_next}
use Rattle.machine.specs.Machines.{in_fair_set, matched, next, n_c, n_a, sets_c, sets_a, pairs}
use Rattle.machine.specs.Step.{steps}
use Rattle.machine.specs.StepLaws.{Steps, steps_at, steps_of_lem, steps_cong}
use Rattle.machine.specs.Table.{blank, entry, covers}
use Rattle.machine.specs.Ranks.{level_of, set_of}
use Rattle.machine.specs.LevelLaws.{level_low}
use Rattle.machine.specs.Lines.{non_blank, lower, at_most, goal_line, rank_line, passes, passes_each, lines_validity}
use Rattle.machine.specs.declared.Refusal.TheVariants.{FailingEntry}

-- "entry 0 or smaller l", exactly if at most (l − 1) × m
pub lower_is : (m l e : ℕ) → 0 < m → 0 < l → or (eqb e 0) (ltb (level_of m e) l) ≡ leb e ((l - 1) * m)
unfolding level_of
lower_is m l e hm hl = by_cases (ℕ_discrete e 0) (λ z. or_l _ (eq-eqb e 0 z) ∙ sym (le-leb e ((l - 1) * m) (omega arith)))
    (λ z. or_false_l _ (ne_eqb e 0 z) ∙ both _ _
    (λ t. le-leb e ((l - 1) * m) (let q : (e - 1) / m < l - 1 = omega (arith, ltb-true ((e - 1) / m + 1) l t) in omega (arith, (div-lt_iff_lt-mul hm).0 q)))
    (λ t. lt-ltb ((e - 1) / m + 1) l (let q : e - 1 < (l - 1) * m = omega (arith, leb-true e ((l - 1) * m) t) in omega (arith, (div-lt_iff_lt-mul hm).1 q))))

-- "non-blank", for the 16 bits of an entry, is at most the number before blank
pub covered_is : (e : ℕ) → e ≤ blank → not (eqb e blank) ≡ leb e (blank - 1)
covered_is e h = by_cases (ℕ_discrete e blank) (λ z. not_f (eq-eqb e blank z) ∙ sym (lt-leb e (blank - 1) (omega arith)))
    (λ z. not_i (ne_eqb e blank z) ∙ sym (le-leb e (blank - 1) (omega arith)))

module _ (p : Pair) (T : List ℕ) where
  pub covers_at : (j c a : ℕ) → covers p T j c a ≡ true → entry p T j c a ≡ blank → ⊥
  unfolding covers
  covers_at j c a t = eqb-false _ _ (not_e _ t)

  pub covers_of : (j c a : ℕ) → (entry p T j c a ≡ blank → ⊥) → covers p T j c a ≡ true
  unfolding covers
  covers_of j c a h = not_i (ne_eqb _ _ h)

  pub uncovered : (j c a : ℕ) → covers p T j c a ≡ false → entry p T j c a ≡ blank
  unfolding covers
  uncovered j c a t = ⊎_elim (λ u. eqb-true _ _ u) (λ u. absurd (clash t (not_i u))) (dec (eqb (entry p T j c a) blank))

  pub non_blank_at : (j c a : ℕ) → non_blank p T j c a ≡ true → (matched p c a ≡ true) × (covers p T j c a ≡ true)
  unfolding non_blank
  non_blank_at j c a t = (and_l _ _ t, and_r _ _ t)

  pub non_blank_of : (j c a : ℕ) → matched p c a ≡ true → covers p T j c a ≡ true → non_blank p T j c a ≡ true
  unfolding non_blank
  non_blank_of j c a t u = and_i t u

  pub at_most_at : (j r c a : ℕ) → at_most p T j r c a ≡ true → (matched p c a ≡ true) × (entry p T j c a ≤ r)
  unfolding at_most
  at_most_at j r c a t = (and_l _ _ t, leb-true _ _ (and_r _ _ t))

  pub at_most_of : (j r c a : ℕ) → matched p c a ≡ true → entry p T j c a ≤ r → at_most p T j r c a ≡ true
  unfolding at_most
  at_most_of j r c a t l = and_i t (le-leb _ _ l)

  -- each line asks for entries at most a bound
  pub lower_at_most : (j l c a : ℕ) → 0 < sets_c p → 0 < l → lower p T j l c a ≡ at_most p T j ((l - 1) * sets_c p) c a
  unfolding lower at_most
  lower_at_most j l c a hm hl = ap (and (matched p c a)) (lower_is (sets_c p) l (entry p T j c a) hm hl)

  pub covers_bound : (j c a : ℕ) → entry p T j c a ≤ blank → covers p T j c a ≡ leb (entry p T j c a) (blank - 1)
  unfolding covers
  covers_bound j c a h = covered_is (entry p T j c a) h

  non_blank_at_most : (j c a : ℕ) → entry p T j c a ≤ blank → non_blank p T j c a ≡ at_most p T j (blank - 1) c a
  unfolding non_blank at_most
  non_blank_at_most j c a h = ap (and (matched p c a)) (covers_bound j c a h)

  pub goal_bound : (j c a : ℕ) → ((d b : ℕ) → entry p T (next (sets_a p) j) d b ≤ blank)
      → goal_line p T j c a ≡ and (in_fair_set p.abstraction j a) (steps p (at_most p T (next (sets_a p) j) (blank - 1)) c a)
  unfolding goal_line
  goal_bound j c a h =
      ap (and (in_fair_set p.abstraction j a)) (steps_cong p _ _ (λ d b hd hb. non_blank_at_most (next (sets_a p) j) d b (h d b)) c a)

  pub inside_bound : (j r c a : ℕ) → 0 < sets_c p → in_fair_set p.concrete (set_of (sets_c p) r) c ≡ true
      → rank_line p T j r c a ≡ steps p (at_most p T j ((level_of (sets_c p) r - 1) * sets_c p)) c a
  unfolding rank_line
  inside_bound j r c a h t = rw t (steps_cong p _ _ (λ d b hd hb. lower_at_most j (level_of (sets_c p) r) d b h (level_low (sets_c p) r)) c a)

  pub outside_bound : (j r c a : ℕ) → in_fair_set p.concrete (set_of (sets_c p) r) c ≡ false → rank_line p T j r c a ≡ steps p (at_most p T j r) c a
  unfolding rank_line
  outside_bound j r c a t = rw t

  -- what is asked of an entry that is not blank
  pub passes_covered : (j c a : ℕ) → (entry p T j c a ≡ blank → ⊥)
      → passes p T j c a
      ≡ and (matched p c a) (and (leb (entry p T j c a) (sets_c p * pairs p)) (cond (eqb (entry p T j c a) 0) (goal_line p T j c a) (rank_line p T j (entry p T j c a) c a)))
  unfolding passes
  passes_covered j c a h = or_false_l _ (ne_eqb _ _ h)

  -- a non-blank entry that passes, as sentences
  pub record Passing (j c a : ℕ) : Type 0 where
    pub is_matched : matched p c a ≡ true
    pub bounded : entry p T j c a ≤ sets_c p * pairs p
    pub in_set : entry p T j c a ≡ 0 → in_fair_set p.abstraction j a ≡ true
    pub to_next : entry p T j c a ≡ 0 → Steps p (non_blank p T (next (sets_a p) j)) c a
    pub inside : (entry p T j c a ≡ 0 → ⊥) → in_fair_set p.concrete (set_of (sets_c p) (entry p T j c a)) c ≡ true
        → Steps p (lower p T j (level_of (sets_c p) (entry p T j c a))) c a
    pub outside : (entry p T j c a ≡ 0 → ⊥) → in_fair_set p.concrete (set_of (sets_c p) (entry p T j c a)) c ≡ false
        → Steps p (at_most p T j (entry p T j c a)) c a

  pub passes_at : (j c a : ℕ) → passes p T j c a ≡ true → covers p T j c a ≡ true → Passing j c a
  unfolding goal_line rank_line
  passes_at j c a t u =
      let q = sym (passes_covered j c a (covers_at j c a u)) ∙ t in
      let line = and_r _ _ (and_r _ _ q) in
      let goal : entry p T j c a ≡ 0 → and (in_fair_set p.abstraction j a) (steps p (non_blank p T (next (sets_a p) j)) c a) ≡ true =
      λ e. rw (eq-eqb _ _ e) at line in
      let ranked : (entry p T j c a ≡ 0 → ⊥) → rank_line p T j (entry p T j c a) c a ≡ true = λ e. rw (ne_eqb _ _ e) at line in
      record {
        is_matched = and_l _ _ q;
        bounded = leb-true _ _ (and_l _ _ (and_r _ _ q));
        in_set = λ e. and_l _ _ (goal e);
        to_next = λ e. steps_at p _ c a (and_r _ _ (goal e));
        inside = λ e i. steps_at p _ c a (rw i at (ranked e));
        outside = λ e o. steps_at p _ c a (rw o at (ranked e));
      }

  pub passes_of : (j c a : ℕ) → Passing j c a → passes p T j c a ≡ true
  unfolding passes goal_line rank_line
  passes_of j c a q = or_r _ (and_i q.is_matched (and_i (le-leb _ _ q.bounded)
      (cond_cases (eqb (entry p T j c a) 0) (λ b. b ≡ true) (goal_line p T j c a) (rank_line p T j (entry p T j c a) c a)
      (λ t. and_i (q.in_set (eqb-true _ _ t)) (steps_of_lem p _ c a (q.to_next (eqb-true _ _ t))))
      (λ t. cond_cases (in_fair_set p.concrete (set_of (sets_c p) (entry p T j c a)) c) (λ b. b ≡ true) _ _
      (λ i. steps_of_lem p _ c a (q.inside (eqb-false _ _ t) i)) (λ o. steps_of_lem p _ c a (q.outside (eqb-false _ _ t) o))))))

  pub blank_passes : (j c a : ℕ) → entry p T j c a ≡ blank → passes p T j c a ≡ true
  unfolding passes
  blank_passes j c a e = or_l _ (eq-eqb _ _ e)

  pub passes_blank : (j c a : ℕ) → covers p T j c a ≡ false → passes p T j c a ≡ true
  passes_blank j c a t = blank_passes j c a (uncovered j c a t)

  -- ---- the whole table
  pub each_at : passes_each p T ≡ true → (j c a : ℕ) → j < sets_a p → c < n_c p → a < n_a p → passes p T j c a ≡ true
  unfolding passes_each
  each_at t j c a hj hc ha = every_at _ _ (every_at _ _ (every_at _ _ t j hj) c hc) a ha

  pub each_of : ((j c a : ℕ) → j < sets_a p → c < n_c p → a < n_a p → passes p T j c a ≡ true) → passes_each p T ≡ true
  unfolding passes_each
  each_of h = every_of _ _ (λ j hj. every_of _ _ (λ c hc. every_of _ _ (λ a ha. h j c a hj hc ha)))

  pub lines_valid : passes_each p T ≡ true → lines_validity p T ≡ valid
  unfolding passes_each lines_validity
  lines_valid t =
      let e : first (sets_a p) (λ j. not (every (n_c p) (λ c. every (n_a p) (passes p T j c)))) ≡ sets_a p = first_none _ _ (λ j hj. not_f (every_at _ _ t j hj)) in
      rw (e, le-ltb (sets_a p) (sets_a p) (omega arith))

  -- the first entry that fails, where all before it pass: what the loops of a check show
  pub lines_fail : (j c a : ℕ) → j < sets_a p → c < n_c p → a < n_a p → passes p T j c a ≡ false
      → ((j' : ℕ) → j' < j → every (n_c p) (λ c. every (n_a p) (passes p T j' c)) ≡ true)
      → ((c' : ℕ) → c' < c → every (n_a p) (passes p T j c') ≡ true)
      → ((a' : ℕ) → a' < a → passes p T j c a' ≡ true)
      → lines_validity p T ≡ Err (FailingEntry (suc j) c a)
  unfolding lines_validity
  lines_fail j c a hj hc ha e bj bc ba =
      let row : every (n_a p) (passes p T j c) ≡ false = every_not _ _ a ha e in
      let sec : every (n_c p) (λ c. every (n_a p) (passes p T j c)) ≡ false = every_not _ _ c hc row in
      let ej : first (sets_a p) (λ j. not (every (n_c p) (λ c. every (n_a p) (passes p T j c)))) ≡ j = first_is _ _ j hj (not_i sec) (λ k q. not_f (bj k q)) in
      let ec : first (n_c p) (λ c. not (every (n_a p) (passes p T j c))) ≡ c = first_is _ _ c hc (not_i row) (λ k q. not_f (bc k q)) in
      let ea : first (n_a p) (λ a. not (passes p T j c a)) ≡ a = first_is _ _ a ha (not_i e) (λ k q. not_f (ba k q)) in
      rw (ej, ec, ea, lt-ltb j (sets_a p) hj)

  pub valid_passes : lines_validity p T ≡ valid → passes_each p T ≡ true
  unfolding lines_validity passes_each
  valid_passes t = first_all (sets_a p) (λ j. every (n_c p) (λ c. every (n_a p) (passes p T j c))) (ltb-false _ _ (valid_next _ _ valid t).0)
