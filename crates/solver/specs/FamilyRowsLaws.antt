-- Laws of families as rows: a section is taken out and put in, and a turn makes one section after the other.
use mathlib.Core.List.{List, []}
use Rattle.std.proofs.Math.Logic.{by_cases}
use Rattle.std.specs.Prelude.{◌≡◌, refl, ℕ, ◌+◌, ◌*◌, ◌/◌, ◌%◌, ◌≤◌, ◌<◌, length, take, drop, replicate}
use Rattle.std.proofs.Common.{sym, ◌∙◌, eq-eqb, ne_eqb}
use Rattle.std.proofs.lemmas.List.{get_or-take, get_or-drop}
use Rattle.rows.specs.WriteLaws.{patch, patch_length, patch_before, patch_in, patch_after, cut_long}
use Rattle.std.proofs.Math.Path.{ap}
use Rattle.std.proofs.Math.Decide.{dec_lt, ℕ_discrete}
use native.Mathlib.Omega.{arith}
use Rattle.std.proofs.Math.ListN.{get_or}
use Rattle.mask.specs.Tables.{table}
use Rattle.mask.specs.TablesLaws.{table_at, table_past, table_cong, fill_done}
use Rattle.mask.specs.FrontLaws.{zeros_at}
use Rattle.machine.specs.declared.Pair.{Pair}
use Rattle.machine.specs.Machines.{fair_set, next, n_c, sets_a}
use Rattle.machine.specs.StepLaws.{next_lt}
use Rattle.machine.specs.WellFormedLaws.{WellPair}
use Rattle.machine.specs.Observed.{matched_masks}
use Rattle.machine.specs.Game.{pair_set, mem, goals, levels, turn}
use Rattle.theory.specs.GameLaws.{set_canonical}
use Rattle.rows.specs.Rows.{rows_of, pairs_in, goal_rows, join_rows, step_rows, abstract_predecessors}
use Rattle.rows.specs.SetRowsLaws.{rows_at, set_back, held_is, goals_is}
use Rattle.solver.specs.Ranking.{Holds}
use Rattle.solver.specs.XLaws.{holds_set}
use Rattle.solver.specs.Families.{flat_of, section_of, family_in, turn_rows, put_section}

-- ---- section j as a part of the family, from place a on
pub part_is : (F : List ℕ) {P : List ℕ} (j : ℕ) {a k : ℕ} → j < 7 → length F ≡ 448 → a ≡ j * 64 → k ≡ 64 → P ≡ take k (drop a F) → P ≡ section_of F j
unfolding section_of
part_is F j {a} {k} h f ea ek e = e ∙ fill_done 0 64 (take k (drop a F)) _ (cut_long k a F (omega arith) ∙ ek)
    (λ c l. get_or-take k (drop a F) c 0 (omega arith) ∙ get_or-drop a F c 0 ∙ ap (λ (n : ℕ). get_or F (n + c) 0) ea)

pub part_put : (F S P : List ℕ) (j a k : ℕ) → j < 7 → length F ≡ 448 → length S ≡ 64 → a ≡ j * 64 → k ≡ 64 → P ≡ S → patch F a P k ≡ put_section F j S
unfolding put_section
part_put F S P j a k h f s ea ek e =
    let fits : a + k ≤ length F = omega arith in
    let long : length P ≡ k = ap length e ∙ s ∙ sym ek in
    fill_done 0 448 (patch F a P k) _ (patch_length F P a k fits long ∙ f) (λ i l. by_cases (ℕ_discrete (i / 64) j)
    (λ q. let z : i ≡ a + i % 64 = omega arith in
    rw (eq-eqb (i / 64) j q) (ap (λ (n : ℕ). get_or (patch F a P k) n 0) z ∙ patch_in F P a k fits long (i % 64) (omega arith) ∙ ap (λ (xs : List ℕ). get_or xs (i % 64) 0) e))
    (λ q. rw (ne_eqb (i / 64) j q) (by_cases (dec_lt i a) (patch_before F P a k fits long i) (λ b. patch_after F P a k fits long i (omega arith)))))

-- ---- the rows of a family, and back
-- the first j sections, and one more
pub flat_none : (f : ℕ → List ℕ) → replicate 448 0 ≡ flat_of (table 0 f)
unfolding flat_of table
flat_none f = fill_done 0 448 (replicate 448 0) _ refl (λ e h. zeros_at 448 e)

pub flat_more : (f : ℕ → List ℕ) (j : ℕ) (S : List ℕ) → j < 7 → ((c : ℕ) → c < 64 → get_or S c 0 ≡ get_or (f j) c 0)
    → put_section (flat_of (table j f)) j S ≡ flat_of (table (j + 1) f)
unfolding put_section flat_of
flat_more f j S h s = table_cong 448 _ _ (λ e l. by_cases (ℕ_discrete (e / 64) j)
    (λ q. rw (eq-eqb (e / 64) j q, q, table_at (j + 1) f j [] (omega arith)) (s (e % 64) (omega arith)))
    (λ q. rw (ne_eqb (e / 64) j q, table_at 448 (λ i. get_or (get_or (table j f) (i / 64) []) (i % 64) 0) e 0 l)
    (ap (λ (R : List ℕ). get_or R (e % 64) 0) (by_cases (dec_lt (e / 64) j)
    (λ k. table_at j f (e / 64) [] k ∙ sym (table_at (j + 1) f (e / 64) [] (omega arith)))
    (λ k. table_past j f (e / 64) [] (omega arith) ∙ sym (table_past (j + 1) f (e / 64) [] (omega arith)))))))

module _ (p : Pair) (w : WellPair p) where
  few : (j : ℕ) → j < sets_a p → j < 7
  few j h = omega (arith, w.abstraction.sets_high)

  pub family_at : (F : List ℕ) (j : ℕ) → j < sets_a p → get_or (family_in p F) j [] ≡ pair_set p (mem p (section_of F j))
  unfolding family_in
  family_at F j h = table_at (sets_a p) (λ i. pair_set p (mem p (section_of F i))) j [] h

  -- the rows of a section, met with the matched pairs, hold what the family has there
  pub section_in : (F : List ℕ) (j : ℕ) → j < sets_a p → pairs_in p (join_rows (matched_masks p) (section_of F j) (section_of F j)) ≡ get_or (family_in p F) j []
  section_in F j h =
      ap (pairs_in p) (held_is p w (section_of F j)) ∙ set_back p w (pair_set p (mem p (section_of F j))) (set_canonical p (mem p (section_of F j)))
      ∙ sym (family_at F j h)

  -- ---- a turn, section by section
  module _ (F : List ℕ) where
    pub goals_done : {matched predecessors rows set g : List ℕ} {i : ℕ} (j : ℕ) → j < sets_a p → matched ≡ matched_masks p → predecessors ≡ abstract_predecessors p
        → i ≡ next (sets_a p) j → rows ≡ section_of F i → set ≡ join_rows matched rows rows → g ≡ goal_rows matched (fair_set p.abstraction j) (step_rows (n_c p) p.concrete.successors predecessors set)
        → g ≡ rows_of (goals p (family_in p F) j)
    goals_done j h em ep ei er es eg =
        eg ∙ rw (ep, es, em, er, ei) (goals_is p w (family_in p F) j _ (section_in F (next (sets_a p) j) (next_lt (sets_a p) j h)))

    pub goals_hold : {g : List ℕ} (j : ℕ) → g ≡ rows_of (goals p (family_in p F) j) → Holds p g
    unfolding goals
    goals_hold j e = holds_set p w (goals p (family_in p F) j) (set_canonical p _) e

    pub goals_back : {g : List ℕ} (j : ℕ) → g ≡ rows_of (goals p (family_in p F) j) → pairs_in p g ≡ goals p (family_in p F) j
    unfolding goals
    goals_back j e = ap (pairs_in p) e ∙ set_back p w (goals p (family_in p F) j) (set_canonical p _)

    pub turn_more : {out : List ℕ} (j : ℕ) → j < sets_a p → out ≡ flat_of (table j (λ i. levels p (goals p (family_in p F) i)))
        → put_section out j (rows_of (levels p (goals p (family_in p F) j))) ≡ flat_of (table (j + 1) (λ i. levels p (goals p (family_in p F) i)))
    turn_more j h e = ap (λ (l : List ℕ). put_section l j (rows_of (levels p (goals p (family_in p F) j)))) e ∙ flat_more _ j _ (few j h) (λ c l. rows_at _ c l)

    pub turn_all : {j : ℕ} → j ≡ sets_a p → flat_of (table j (λ i. levels p (goals p (family_in p F) i))) ≡ turn_rows p F
    unfolding turn_rows turn
    turn_all e = rw e
