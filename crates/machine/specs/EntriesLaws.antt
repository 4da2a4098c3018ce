-- Entries past n × P are not looked at: two tables with the same n × P entries get the same answers.
use Rattle.std.specs.Prelude.{Bool, List, ◌++◌, ◌≡◌, ℕ, ◌≤◌, ◌<◌, length}
use Rattle.std.proofs.Math.Bool.{cond}
use Rattle.std.proofs.Math.Logic.{⊎_elim}
use Rattle.std.proofs.Math.Path.{refl, sym, ap, ap₂}
use Rattle.std.proofs.Common.{◌∙◌, mul_assoc, arith}
use Rattle.std.proofs.Math.Arith.{digits_lt}
use Rattle.std.proofs.Math.ListN.{get_or-append}
use Rattle.mask.specs.Logic.{and}
use Rattle.mask.specs.LogicLaws.{dec}
use Rattle.mask.specs.Bounded.{every}
use Rattle.mask.specs.BoundedLaws.{first_cong, first_failing, every_cong, count_cong, some_in_cong}
use Rattle.machine.specs.declared.Pair.{Pair}
use Rattle.machine.specs.Machines.{in_fair_set, matched, next, n_c, n_a, sets_c, sets_a}
use Rattle.machine.specs.StepLaws.{steps_cong, next_lt}
use Rattle.machine.specs.Ranks.{set_of}
use Rattle.machine.specs.Table.{entry_index, entry, covers, entries, covered_count, table_room, SameEntries}
use Rattle.machine.specs.Lines.{non_blank, lower, at_most, goal_line, rank_line, passes, passes_each, lines_validity}
use Rattle.machine.specs.LinesLaws.{lines_valid, lines_fail}
use Rattle.machine.specs.RefusalsLaws.{then_same}
use Rattle.machine.specs.WellFormedLaws.{well_valid}
use Rattle.machine.specs.Verdict.{start_covered, lacking_start, start_verdict, lines_verdict, check_verdict}
use Rattle.machine.specs.VerdictLaws.{check_lines}

pub index_entries : (p : Pair) (j c a : ℕ) → j < sets_a p → c < n_c p → a < n_a p → entry_index (n_c p) (n_a p) j c a < entries p
unfolding entry_index
index_entries p j c a hj hc ha = let l = digits_lt (digits_lt hj hc) ha in rw (mul_assoc (sets_a p) (n_c p) (n_a p)) at l

module _ (p : Pair) (T R : List ℕ) (same : SameEntries p T R) where
  pub entry_same : (j c a : ℕ) → j < sets_a p → c < n_c p → a < n_a p → entry p T j c a ≡ entry p R j c a
  unfolding entry
  entry_same j c a hj hc ha = same _ (index_entries p j c a hj hc ha)

  pub covers_same : (j c a : ℕ) → j < sets_a p → c < n_c p → a < n_a p → covers p T j c a ≡ covers p R j c a
  unfolding covers
  covers_same j c a hj hc ha = rw (entry_same j c a hj hc ha)

  goal_same : (j c a : ℕ) → j < sets_a p → goal_line p T j c a ≡ goal_line p R j c a
  unfolding goal_line non_blank
  goal_same j c a hj = ap (and (in_fair_set p.abstraction j a))
      (steps_cong p _ _ (λ d b hd hb. ap (and (matched p d b)) (covers_same (next (sets_a p) j) d b (next_lt (sets_a p) j hj) hd hb)) c a)

  rank_same : (j r c a : ℕ) → j < sets_a p → rank_line p T j r c a ≡ rank_line p R j r c a
  unfolding rank_line lower at_most
  rank_same j r c a hj = ap₂ (λ (x y : Bool). cond (in_fair_set p.concrete (set_of (sets_c p) r) c) x y)
      (steps_cong p _ _ (λ d b hd hb. rw (entry_same j d b hj hd hb)) c a)
      (steps_cong p _ _ (λ d b hd hb. rw (entry_same j d b hj hd hb)) c a)

  pub passes_same : (j c a : ℕ) → j < sets_a p → c < n_c p → a < n_a p → passes p T j c a ≡ passes p R j c a
  unfolding passes
  passes_same j c a hj hc ha = rw (entry_same j c a hj hc ha, goal_same j c a hj, rank_same j (entry p R j c a) c a hj)

  pub each_same : passes_each p T ≡ passes_each p R
  unfolding passes_each
  each_same = every_cong _ _ _ (λ j hj. every_cong _ _ _ (λ c hc. every_cong _ _ _ (λ a ha. passes_same j c a hj hc ha)))

  pub lines_same : lines_validity p T ≡ lines_validity p R
  unfolding passes_each
  lines_same = ⊎_elim
      (λ t. lines_valid p T t ∙ sym (lines_valid p R (sym each_same ∙ t)))
      (λ t.
      let u = first_failing (sets_a p) _ t in
      let v = first_failing (n_c p) _ u.2 in
      let w = first_failing (n_a p) _ v.2 in
      lines_fail p T u.0 v.0 w.0 u.1 v.1 w.1 w.2 u.3 v.3 w.3
      ∙ sym (lines_fail p R u.0 v.0 w.0 u.1 v.1 w.1
      (sym (passes_same u.0 v.0 w.0 u.1 v.1 w.1) ∙ w.2)
      (λ j l. sym (section_same j (omega (arith, u.1))) ∙ u.3 j l)
      (λ c l. sym (row_same u.0 c u.1 (omega (arith, v.1))) ∙ v.3 c l)
      (λ a l. sym (passes_same u.0 v.0 a u.1 v.1 (omega (arith, w.1))) ∙ w.3 a l)))
      (dec (passes_each p T))
    where
      row_same : (j c : ℕ) → j < sets_a p → c < n_c p → every (n_a p) (passes p T j c) ≡ every (n_a p) (passes p R j c)
      row_same j c hj hc = every_cong _ _ _ (λ a ha. passes_same j c a hj hc ha)

      section_same : (j : ℕ) → j < sets_a p → every (n_c p) (λ c. every (n_a p) (passes p T j c)) ≡ every (n_c p) (λ c. every (n_a p) (passes p R j c))
      section_same j hj = every_cong _ _ _ (λ c hc. row_same j c hj hc)

  pub start_same : 0 < sets_a p → (c : ℕ) → c < n_c p → start_covered p T c ≡ start_covered p R c
  unfolding start_covered
  start_same pos c hc = some_in_cong _ _ _ _ (λ a ha t. covers_same 0 c a pos hc ha)

  lacking_same : 0 < sets_a p → lacking_start p T ≡ lacking_start p R
  unfolding lacking_start
  lacking_same pos = first_cong _ _ _ (λ c hc. rw (start_same pos c hc))

  count_same : covered_count p T ≡ covered_count p R
  unfolding covered_count
  count_same = count_cong _ _ _ (λ e l. rw (same e l))

  -- ill-formed machines are refused before the table is looked at
  pub verdict_same : lines_verdict p T ≡ lines_verdict p R
  unfolding lines_verdict start_verdict
  verdict_same = then_same _ _ _ _ refl (λ v. rw (lines_same, lacking_same (well_valid p v).abstraction.sets_low, count_same))

  pub check_same : table_room ≤ length T → table_room ≤ length R → check_verdict p T ≡ check_verdict p R
  check_same long long' = check_lines p T long ∙ verdict_same ∙ sym (check_lines p R long')

-- a table with anything after it has the same n × P entries
pub front_same : (p : Pair) (T U : List ℕ) → entries p ≤ length T → SameEntries p (T ++ U) T
front_same p T U h e l = get_or-append T U 0 e (omega arith)
