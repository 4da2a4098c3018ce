-- Laws of a line as a bound: its cases, that it is what document 01 asks of the entry, and what the walks of the check find.
use Rattle.std.specs.Prelude.{Bool, false, cond, Option, Some, None, List, ◌≡◌, refl, ℕ, ◌+◌, ◌-◌, ◌*◌, ◌^◌, ◌≤◌, ◌<◌, ltb, leb, eqb, length, get_or, take, drop}
use Rattle.std.proofs.Math.Bool.{true}
use Rattle.std.proofs.Math.Path.{sym, ap}
use Rattle.std.proofs.Common.{◌∙◌, pow_mono}
use native.Mathlib.Omega.{arith}
use Rattle.std.specs.Bool.{then_some}
use Rattle.std.proofs.lemmas.Option.{none-some, same_Some}
use borrow.Author.Tests.{lt-ltb, le-ltb, eq-eqb, ne_eqb, ltb-true, ltb-false, le-leb, lt-leb}
use Rattle.mask.specs.Bits.{has_bit, lowest_of}
use Rattle.mask.specs.BitsLaws.{has_lt, lowest_set}
use Rattle.mask.specs.Logic.{and, not}
use Rattle.mask.specs.LogicLaws.{cond_cases, not_e, not_i, not_f, not_not, and_true_l, and_false_l}
use Rattle.mask.specs.Bounded.{every_in, some_in}
use Rattle.mask.specs.BoundedLaws.{every_in_width, some_in_cong}
use Rattle.machine.specs.declared.Pair.{Pair}
use Rattle.machine.specs.Machines.{matched, moves, successors, in_fair_set, fair_set, next, n_c, n_a, sets_c, sets_a, pairs}
use Rattle.machine.specs.Observed.{matched_masks}
use Rattle.machine.specs.ObservedLaws.{has_matched_at}
use Rattle.machine.specs.WellFormedLaws.{WellPair, bits_small}
use Rattle.machine.specs.Ranks.{level_of, set_of}
use Rattle.machine.specs.Step.{steps, single_step, in_row, found}
use Rattle.machine.specs.Table.{blank, table_room, entry_index, place_of, entry}
use Rattle.machine.specs.RowLaws.{row_found, row_room, place_is}
use Rattle.machine.specs.Lines.{at_most, rank_line, passes}
use Rattle.machine.specs.LinesLaws.{goal_bound, inside_bound, outside_bound, passes_covered, blank_passes}
use Rattle.linecheck.specs.declared.Line.{Line}
use Rattle.linecheck.specs.Bounds.{line_of}

-- ---- the cases of a line
module _ (m most j after c a e matched : ℕ) (concrete_sets : List ℕ) (abstract_set : ℕ) where
  abbrev line : Option Line
  line = line_of m most j after c a e matched concrete_sets abstract_set

  pub line_unmatched : has_bit matched a ≡ false → None ≡ line
  unfolding line_of
  line_unmatched t = rw (not_i t)

  pub line_above : most < e → None ≡ line
  unfolding line_of
  line_above h = rw (lt-ltb most e h) (cond_cases (not (has_bit matched a)) (λ (o : Option Line). None ≡ o) _ _ (λ t. refl) (λ t. refl))

  pub line_goal : has_bit matched a ≡ true → e ≤ most → e ≡ 0 → (held : Bool) → held ≡ has_bit abstract_set a
      → then_some held (record { section = after; bound = blank - 1 }) ≡ line
  unfolding line_of
  line_goal t h z held i = rw (not_f t, le-ltb most e h, eq-eqb e 0 z, ← i) (then_some_is held)
    where
      then_some_is : (b : Bool) → then_some {T = Line} b (record { section = after; bound = blank - 1 }) ≡ cond b (Some (record { section = after; bound = blank - 1 })) None
      then_some_is true = refl
      then_some_is false = refl

  -- of an entry that is not 0: in set k the bound is below its level, elsewhere it is the entry
  module _ (t : has_bit matched a ≡ true) (h : e ≤ most) (z : e ≡ 0 → ⊥) (level set : ℕ) (l : level ≡ level_of m e) (k : set ≡ set_of m e) where
    pub line_inside : has_bit (get_or concrete_sets set 0) c ≡ true → Some (record { section = j; bound = (level - 1) * m }) ≡ line
    unfolding line_of
    line_inside i = rw (not_f t, le-ltb most e h, ne_eqb e 0 z, ← l, ← k, i)

    pub line_outside : has_bit (get_or concrete_sets set 0) c ≡ false → Some (record { section = j; bound = e }) ≡ line
    unfolding line_of
    line_outside i = rw (not_f t, le-ltb most e h, ne_eqb e 0 z, ← l, ← k, i)

  pub line_section : (n : ℕ) (L : Line) → Some L ≡ line → j < n → after < n → L.section < n
  unfolding line_of
  line_section n L made h k =
      let P : Option Line → Type 0 = λ o. Some L ≡ o → L.section < n in
      let fails : P None = λ e. absurd (none-some L (sym e)) in
      let asks : (M : Line) → M.section < n → P (Some M) = λ M l e. omega (arith, ap (λ (M : Line). M.section) (same_Some L M e)) in
      cond_cases (not (has_bit matched a)) P _ _ (λ t. fails) (λ t. cond_cases (ltb most e) P _ _ (λ t. fails) (λ t. cond_cases (eqb e 0) P _ _
      (λ t. cond_cases (has_bit abstract_set a) P _ _ (λ t. asks _ k) (λ t. fails))
      (λ t. asks _ h))) made

-- ---- an entry's line
module _ (p : Pair) (T : List ℕ) where
  -- some state of the mask `moves` is matched with d and has an entry beside it, in the section, that is at most the bound
  unfoldable pub serves : ℕ → ℕ → ℕ → ℕ → Bool
  serves moves section bound d = some_in (n_a p) moves (at_most p T section bound d)

  abbrev asked : Option Line → ℕ → ℕ → Bool
  asked None c a = false
  asked (Some L) c a = steps p (at_most p T L.section L.bound) c a

  asked_if : (b : Bool) (L : Line) (c a : ℕ) → and b (steps p (at_most p T L.section L.bound) c a) ≡ asked (cond b (Some L) None) c a
  unfolding and
  asked_if true L c a = refl
  asked_if false L c a = refl

-- an entry has 16 bits
pub entry_small : (p : Pair) (T : List ℕ) → ((i : ℕ) → get_or T i 0 ≤ blank) → (j c a : ℕ) → entry p T j c a ≤ blank
unfolding entry
entry_small p T small j c a = small _

-- the place that is found for an entry of a well-formed pair
pub place_at_lem : (p : Pair) → WellPair p → (r j c a : ℕ) → r ≡ place_of (n_c p) (n_a p) j c a → j < 7 → c < n_c p → a < 64 → r ≡ entry_index (n_c p) (n_a p) j c a
place_at_lem p w r j c a e hj hc ha =
    e ∙ place_is (n_c p) (n_a p) j c a (omega (arith, w.concrete.states_high)) (omega (arith, w.abstraction.states_high)) (omega arith)
    (omega (arith, w.concrete.states_high)) (omega arith)

-- the row of any section that starts there lies within the table
pub row_fits : (p : Pair) → WellPair p → (r j c room : ℕ) → r ≡ place_of (n_c p) (n_a p) j c 0 → j < 7 → c < n_c p → table_room ≤ room → r + n_a p ≤ room
row_fits p w r j c room e hj hc h =
    omega (
      arith,
      place_at_lem p w r j c 0 e hj hc (omega arith),
      h,
      row_room (n_c p) (n_a p) j c hj w.concrete.states_high w.abstraction.states_high hc,
    )

-- a successor mask of the concrete machine has no state at or past nC
pub moves_small : (p : Pair) → WellPair p → (c : ℕ) → c < n_c p → get_or p.concrete.successors c 0 < 2 ^ 64 → get_or p.concrete.successors c 0 < 2 ^ n_c p
unfolding moves successors
moves_small p w c hc h = bits_small (n_c p) (successors p.concrete c) h (λ i. w.concrete.move_bits c i hc)

module _ (p : Pair) (T : List ℕ) (w : WellPair p) (small : (i : ℕ) → get_or T i 0 ≤ blank) where
  -- an entry that is not blank passes exactly if its line holds and the pair steps into what the line's bound allows
  line_is : (j c a : ℕ) → c < n_c p → a < n_a p → (entry p T j c a ≡ blank → ⊥)
      → passes p T j c a
      ≡ asked p T (line_of (sets_c p) (sets_c p * pairs p) j (next (sets_a p) j) c a (entry p T j c a) (get_or (matched_masks p) c 0) p.concrete.fairness (get_or p.abstraction.fairness j 0)) c a
  unfolding line_of in_fair_set fair_set
  line_is j c a hc ha h =
      let e = entry p T j c a in
      let most = sets_c p * pairs p in
      let bit = has_matched_at p w c hc a ha in
      let fact = passes_covered p T j c a h in
      let P : Option Line → Type 0 = λ o. passes p T j c a ≡ asked p T o c a in
      let inside : Bool = has_bit (get_or p.concrete.fairness (set_of (sets_c p) e) 0) c in
      cond_cases (not (has_bit (get_or (matched_masks p) c 0) a)) P _ _
      (λ t. fact ∙ and_false_l _ (sym bit ∙ not_e _ t))
      (λ t.
      let held : matched p c a ≡ true = sym bit ∙ sym (not_not _) ∙ not_i t in
      cond_cases (ltb most e) P _ _
      (λ u. fact ∙ and_true_l _ held ∙ and_false_l _ (lt-leb e most (ltb-true most e u)))
      (λ u.
      let line = fact ∙ and_true_l _ held ∙ and_true_l _ (le-leb e most (ltb-false most e u)) in
      cond_cases (eqb e 0) P _ _
      (λ z. line ∙ rw z (goal_bound p T j c a (entry_small p T small (next (sets_a p) j)) ∙ asked_if p T _ _ c a))
      (λ z. line ∙ rw z (cond_cases inside (λ bound. rank_line p T j e c a ≡ steps p (at_most p T j bound) c a) _ _
      (λ i. inside_bound p T j e c a w.concrete.sets_low i) (λ o. outside_bound p T j e c a o)))))

  -- the entry at a place of the table
  module _ (j c a at : ℕ) (place : at ≡ entry_index (n_c p) (n_a p) j c a) where
    at_entry : get_or T at 0 ≡ entry p T j c a
    unfolding entry
    at_entry = rw place

    pub passes_if_blank : get_or T at 0 ≡ blank → passes p T j c a ≡ true
    passes_if_blank e = blank_passes p T j c a (sym at_entry ∙ e)

    -- and its line, as the check finds it
    module _ (masks : List ℕ) (after : ℕ) (o : Option Line) (made : masks ≡ matched_masks p) (later : after ≡ next (sets_a p) j) (hc : c < n_c p) (ha : a < n_a p) (covered : get_or T at 0 ≡ blank → ⊥)
        (found : o ≡ line_of (sets_c p) (sets_c p * pairs p) j after c a (get_or T at 0) (get_or masks c 0) p.concrete.fairness (get_or p.abstraction.fairness j 0)) where
      line_asks : passes p T j c a ≡ asked p T o c a
      line_asks =
          line_is j c a hc ha (λ e. covered (at_entry ∙ e)) ∙ ap (λ (o : Option Line). asked p T o c a) (rw (← at_entry, ← made, ← later) (sym found))

      pub fails_if : o ≡ None → passes p T j c a ≡ false
      fails_if t = line_asks ∙ ap (λ (o : Option Line). asked p T o c a) t

      -- the successors of c are walked as a mask of 64 bits
      pub passes_if : (L : Line) → o ≡ Some L → get_or p.concrete.successors c 0 < 2 ^ 64
          → passes p T j c a ≡ every_in 64 (get_or p.concrete.successors c 0) (serves p T (get_or p.abstraction.successors a 0) L.section L.bound)
      unfolding steps successors serves
      passes_if L t h = line_asks ∙ ap (λ (o : Option Line). asked p T o c a) t ∙ every_in_width (n_c p) 64 (get_or p.concrete.successors c 0) _ (moves_small p w c hc h) h

-- the state that a walk takes of a mask of w bits
pub taken_lt : (w m i : ℕ) → w ≤ 64 → 0 < m → m < 2 ^ w → i ≡ lowest_of 64 m → i < w
taken_lt w m i l p h e = has_lt w m i h (rw e (lowest_set 64 m p (omega (arith, pow_mono {j = 64} l))))

-- ---- what a single step finds in a row
module _ (p : Pair) (T : List ℕ) (w : WellPair p) (masks : List ℕ) (made : masks ≡ matched_masks p) (j c from to : ℕ)
    (start : from ≡ entry_index (n_c p) (n_a p) j c 0) (end : to ≡ from + n_a p) (fits : to ≤ length T) where
  pub step_found : c < n_c p → (present moves bound : ℕ) (entries : ℕ → ℕ)
      → found (single_step present moves (in_row (get_or masks c 0) (take (to - from) (drop from T)) bound) entries) ≡ serves p T moves j bound c
  unfolding at_most serves
  step_found hc present moves bound entries =
      rw made (row_found p T j c from to start end fits w.abstraction.states_high present moves (get_or (matched_masks p) c 0) bound entries)
      ∙ some_in_cong (n_a p) moves _ _ (λ a l e. ap (λ (b : Bool). and b (leb (entry p T j c a) bound)) (has_matched_at p w c hc a l))
