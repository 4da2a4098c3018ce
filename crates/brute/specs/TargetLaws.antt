-- Laws of an entry's l and k as they are counted down, of the place of an entry, and of the sets that a line steps into.
use Rattle.std.specs.Prelude.{Bool, false, true, None, Some, is_some, unwrap_or, List, ◌≡◌, ◌*◌, ◌+◌, ◌-◌, ◌/◌, ◌<◌, ◌≤◌, ℕ, Err}
use Rattle.std.proofs.Common.{◌∙◌, ap, subst, mod-eq_of_lt, add-one, arith}
use Rattle.std.proofs.Math.Path.{refl, sym}
use Rattle.std.proofs.Math.Logic.{by_cases}
use Rattle.std.proofs.Math.Decide.{dec_lt}
use Rattle.std.proofs.Math.Nat.{add-mod_right, div-eq_of_lt, div-eq-sub-div}
use borrow.Author.Tests.{eq-eqb, le-leb, le-ltb, lt-leb, lt-ltb, ne_eqb}
use Rattle.mask.specs.Bounded.{below, every, first}
use Rattle.mask.specs.BoundedLaws.{below_at, below_past, first_all, first_has, first_some, is_below}
use Rattle.mask.specs.Logic.{not}
use Rattle.mask.specs.LogicLaws.{and_false_l, and_true_l, clash, not_e, not_f, not_i}
use Rattle.machine.specs.Lines.{at_most, goal_line, lines_validity, lower, non_blank, passes, rank_line}
use Rattle.machine.specs.Machines.{in_fair_set, matched, n_a, n_c, next, pairs, sets_a, sets_c}
use Rattle.machine.specs.Ranks.{level_of, set_of}
use Rattle.machine.specs.LinesLaws.{outside_bound, passes_covered}
use Rattle.machine.specs.Refusals.{valid}
use Rattle.machine.specs.RowLaws.{section_room}
use Rattle.machine.specs.Step.{steps}
use Rattle.machine.specs.Table.{blank, covers, entry}
use Rattle.machine.specs.WellFormedLaws.{WellPair, mul_bound}
use Rattle.machine.specs.declared.Pair.{Pair}
use Rattle.brute.specs.Lines.{fails, hit, in_target, row_fails, section_fails}
use Rattle.brute.specs.declared.lines.Target.TheVariants.{AtMost, Lower, NonBlank}
use Rattle.machine.specs.declared.Refusal.TheVariants.{FailingEntry}

-- ---- l and k
-- (l − 1) × m + k, counted down by m
pub level_down : (m r : ℕ) → 0 < m → m < r → level_of m r ≡ level_of m (r - m) + 1
unfolding level_of
level_down m r h k =
    let e : r - 1 - m ≡ r - m - 1 = omega arith in
    omega (arith, div-eq-sub-div {m = m} {n = r - 1} h (omega arith), ap (λ (x : ℕ). x / m) e)

pub set_down : (m r : ℕ) → m < r → set_of m r ≡ set_of m (r - m)
unfolding set_of
set_down m r k =
    let e : r - 1 ≡ (r - m - 1) + m = omega arith in
    rw e (add-mod_right (r - m - 1) m)

-- the first m entries have l = 1
pub level_one : (m r : ℕ) → 0 < r → r ≤ m → level_of m r ≡ 1
unfolding level_of
level_one m r h k = omega (arith, div-eq_of_lt {n = r - 1} {m = m} (omega arith))

pub set_one : (m r : ℕ) → 0 < r → r ≤ m → set_of m r ≡ r - 1
unfolding set_of
set_one m r h k = mod-eq_of_lt (omega arith)

-- ---- the place of an entry
pub place_small : (p : Pair) → WellPair p → (j c : ℕ) → j < 7 → c < 256 → (j * n_c p ≤ 384) × ((j * n_c p + c) * n_a p ≤ 40896)
place_small p w j c hj hc =
    let s = section_room (n_c p) (n_a p) j c hj w.concrete.states_high w.abstraction.states_high in
    (s, mul_bound (j * n_c p + c) (n_a p) 639 64 (omega (arith, s)) w.abstraction.states_high)

-- ---- what a line steps into
module _ (p : Pair) (T : List ℕ) where
  pub target_non_blank : (j c a : ℕ) → steps p (in_target p T NonBlank j) c a ≡ steps p (non_blank p T j) c a
  unfolding in_target hit non_blank covers
  target_non_blank j c a = refl

  pub target_lower : (j l c a : ℕ) → steps p (in_target p T (Lower l) j) c a ≡ steps p (lower p T j l) c a
  unfolding in_target hit lower
  target_lower j l c a = refl

  pub target_at_most : (j r c a : ℕ) → steps p (in_target p T (AtMost r) j) c a ≡ steps p (at_most p T j r) c a
  unfolding in_target hit at_most
  target_at_most j r c a = refl

-- ---- the lines, case by case
module _ (p : Pair) (T : List ℕ) (j c a : ℕ) where
  pub goal_not : in_fair_set p.abstraction j a ≡ false → goal_line p T j c a ≡ false
  unfolding goal_line
  goal_not t = and_false_l _ t

  pub goal_is : in_fair_set p.abstraction j a ≡ true → goal_line p T j c a ≡ steps p (in_target p T NonBlank (next (sets_a p) j)) c a
  unfolding goal_line
  goal_is t = and_true_l _ t ∙ sym (target_non_blank p T (next (sets_a p) j) c a)

  module _ (r : ℕ) where
    pub rank_inside : in_fair_set p.concrete (set_of (sets_c p) r) c ≡ true → rank_line p T j r c a ≡ steps p (in_target p T (Lower (level_of (sets_c p) r)) j) c a
    unfolding rank_line
    rank_inside t = rw t (sym (target_lower p T j (level_of (sets_c p) r) c a))

    pub rank_outside : in_fair_set p.concrete (set_of (sets_c p) r) c ≡ false → rank_line p T j r c a ≡ steps p (in_target p T (AtMost r) j) c a
    rank_outside t = outside_bound p T j r c a t ∙ sym (target_at_most p T j r c a)

  module _ (h : entry p T j c a ≡ blank → ⊥) where
    pub pass_unmatched : matched p c a ≡ false → passes p T j c a ≡ false
    pass_unmatched t = passes_covered p T j c a h ∙ and_false_l _ t

    module _ (t : matched p c a ≡ true) where
      pub pass_above : sets_c p * pairs p < entry p T j c a → passes p T j c a ≡ false
      pass_above l = passes_covered p T j c a h ∙ and_true_l _ t ∙ and_false_l _ (lt-leb _ _ l)

      pub pass_goal : entry p T j c a ≡ 0 → passes p T j c a ≡ goal_line p T j c a
      pass_goal e = passes_covered p T j c a h ∙ and_true_l _ t ∙ and_true_l _ (le-leb (entry p T j c a) (sets_c p * pairs p) (omega arith)) ∙ rw (eq-eqb _ _ e)

      pub pass_rank : entry p T j c a ≤ sets_c p * pairs p → (entry p T j c a ≡ 0 → ⊥) → passes p T j c a ≡ rank_line p T j (entry p T j c a) c a
      pass_rank l z = passes_covered p T j c a h ∙ and_true_l _ t ∙ and_true_l _ (le-leb _ _ l) ∙ rw (ne_eqb _ _ z)

-- ---- the first entry that fails, as nested searches find it
-- there is a first that fails exactly if not every one passes
pub some_failing : (n : ℕ) (q : ℕ → Bool) → is_some (below n (first n (λ i. not (q i)))) ≡ not (every n q)
some_failing n q =
    is_below n _
    ∙ by_cases (dec_lt (first n (λ i. not (q i))) n) (λ l. lt-ltb _ n l ∙ sym (not_i (first_some n q l)))
    (λ l. le-ltb _ n (omega arith) ∙ sym (not_f (first_all n q (omega arith))))

-- where not every one passes the first that fails is below the bound, and what a search answers
failing_below : (n : ℕ) (q : ℕ → Bool) → not (every n q) ≡ true → first n (λ i. not (q i)) < n
failing_below n q t = by_cases (dec_lt (first n (λ i. not (q i))) n) (λ l. l) (λ l. absurd (clash (not_e _ t) (first_all n q (omega arith))))

below_is : (n i : ℕ) → i < n → unwrap_or (below n i) 0 ≡ i
unfolding below
below_is n i l = rw (lt-ltb i n l)

pub below_le : (n i : ℕ) → unwrap_or (below n i) 0 ≤ n
unfolding below
below_le n i = by_cases (dec_lt i n) (λ l. rw (lt-ltb i n l) (omega arith)) (λ l. rw (le-ltb i n (omega arith)) (omega arith))

module _ (p : Pair) (T : List ℕ) where
  pub lines_at_lem : (j c a : ℕ) → Some j ≡ below (sets_a p) (first (sets_a p) (section_fails p T))
      → c ≡ unwrap_or (below (n_c p) (first (n_c p) (row_fails p T j))) 0 → a ≡ unwrap_or (below (n_a p) (first (n_a p) (fails p T j c))) 0
      → lines_validity p T ≡ Err (FailingEntry (j + 1) c a)
  unfolding lines_validity
  lines_at_lem j c a ej ec ea =
      let q = below_at (sets_a p) _ (sym ej) in
      let l : first (n_c p) (row_fails p T j) < n_c p = failing_below (n_c p) _ (subst (λ k. section_fails p T k ≡ true) (sym q.0) (first_has (sets_a p) (section_fails p T) q.1)) in
      let fc : c ≡ first (n_c p) (row_fails p T j) = ec ∙ below_is (n_c p) _ l in
      let m : first (n_a p) (fails p T j c) < n_a p = failing_below (n_a p) _ (subst (λ k. row_fails p T j k ≡ true) (sym fc) (first_has (n_c p) (row_fails p T j) l)) in
      let fa : a ≡ first (n_a p) (fails p T j c) = ea ∙ below_is (n_a p) _ m in
      rw (← q.0, ← fc, ← fa, lt-ltb j (sets_a p) (rw q.0 q.1), add-one)

  pub lines_none : None ≡ below (sets_a p) (first (sets_a p) (section_fails p T)) → lines_validity p T ≡ valid
  unfolding lines_validity
  lines_none e = rw (le-ltb _ (sets_a p) (below_past (sets_a p) _ (sym e)))
