-- A table that passes each line covers only pairs of the family: each of its sections lies within the levels over its own goals.
use Rattle.std.specs.Prelude.{true, ◌≡◌, ℕ, zero, suc, ◌≤◌, ◌<◌, leb, get_or}
use mathlib.Core.List.{List, []}
use Rattle.std.proofs.Math.Logic.{⊎_elim, by_cases}
use Rattle.std.proofs.Common.{sym, ◌∙◌, arith}
use Rattle.std.proofs.Math.Decide.{dec_lt, ℕ_discrete}
use borrow.Author.Tests.{leb-true, le-leb}
use Rattle.mask.specs.Logic.{or}
use Rattle.mask.specs.LogicLaws.{dec, or_l, or_e}
use Rattle.mask.specs.Tables.{table}
use Rattle.mask.specs.TablesLaws.{table_at}
use Rattle.machine.specs.declared.Pair.{Pair}
use Rattle.machine.specs.Machines.{in_fair_set, matched, next, n_c, n_a, sets_c, sets_a}
use Rattle.machine.specs.WellFormedLaws.{WellPair, ranks_small}
use Rattle.machine.specs.Step.{steps}
use Rattle.machine.specs.StepLaws.{next_lt, Steps, steps_of_lem, steps_mono}
use Rattle.machine.specs.Game.{pair_set, mem, goals, level_over, levels}
use Rattle.machine.specs.Ranks.{level_of, set_of, solver_table}
use Rattle.machine.specs.Table.{blank, entry, covers}
use Rattle.machine.specs.Lines.{non_blank, lower, at_most, passes_each}
use Rattle.machine.specs.LevelLaws.{set_lt, level_low, level_below}
use Rattle.machine.specs.LinesLaws.{covers_of, non_blank_at, at_most_at, lower_at_most, Passing, passes_at, each_at}
use Rattle.theory.specs.Statements.{Within}
use Rattle.theory.specs.GameLaws.{in_set, of_set, InX, goal, lower as lower_way, stay, x_over_is, level_of_lem, level_way, levels_is, steps_within}
use Rattle.theory.specs.FamilyLaws.{goals_of, family_is}
use Rattle.theory.specs.PassLaws.{family_covered}

-- a pair among the levels meets the rule of any X over them
levels_way : (p : Pair) (G : List ℕ) (k : ℕ) (U : List ℕ) (c a : ℕ) → c < n_c p → a < n_a p → mem p (levels p G) c a ≡ true
    → (matched p c a ≡ true) × InX p G (levels p G) k U c a
levels_way p G k U c a hc ha t =
    let q = level_way p G (levels p G) (levels_is p G).at c a hc ha ((levels_is p G).at c a hc ha t) in
    (q.0, ⊎_elim goal (λ u. lower_way (steps_within p (level_over p G (levels p G)) (levels p G) (levels_is p G).of c a u)) q.1)

module _ (p : Pair) (w : WellPair p) (T : List ℕ) (t : passes_each p T ≡ true) where
  -- the non-blank pairs of T, section by section
  W : List (List ℕ)
  W = table (sets_a p) (λ j. pair_set p (covers p T j))

  in_W : (j c a : ℕ) → j < sets_a p → c < n_c p → a < n_a p → matched p c a ≡ true → covers p T j c a ≡ true → mem p (get_or W j []) c a ≡ true
  unfolding W
  in_W j c a hj hc ha m u = rw (table_at (sets_a p) (λ i. pair_set p (covers p T i)) j [] hj) (in_set p _ c a hc ha m u)

  of_W : (j c a : ℕ) → j < sets_a p → c < n_c p → a < n_a p → mem p (get_or W j []) c a ≡ true → covers p T j c a ≡ true
  unfolding W
  of_W j c a hj hc ha u = (of_set p _ c a hc ha (rw (table_at (sets_a p) (λ i. pair_set p (covers p T i)) j [] hj) at u)).1

  module _ (j : ℕ) (hj : j < sets_a p) where
    line : (c a : ℕ) → c < n_c p → a < n_a p → covers p T j c a ≡ true → Passing p T j c a
    line c a hc ha u = passes_at p T j c a (each_at p T t j c a hj hc ha) u

    -- the goals over W, and the levels over these
    G : List ℕ
    G = goals p W j

    Y : List ℕ
    Y = levels p G

    -- with the smaller entries in Y, those of r are too
    module _ (r : ℕ) (hr : r < blank)
        (ih : (c a : ℕ) → c < n_c p → a < n_a p → matched p c a ≡ true → entry p T j c a < r → mem p Y c a ≡ true) where
      U : List ℕ
      U = pair_set p (λ c a. or (leb (entry p T j c a) r) (mem p Y c a))

      in_U : (c a : ℕ) → c < n_c p → a < n_a p → matched p c a ≡ true → entry p T j c a ≤ r → mem p U c a ≡ true
      unfolding U
      in_U c a hc ha m l = in_set p _ c a hc ha m (or_l _ (le-leb _ _ l))

      goal_way : (c a : ℕ) → c < n_c p → a < n_a p → Passing p T j c a → entry p T j c a ≡ 0 → mem p G c a ≡ true
      unfolding G
      goal_way c a hc ha l z = goals_of p W j c a hc ha l.is_matched (l.in_set z) (steps_mono p (non_blank p T (next (sets_a p) j)) _
          (λ d b hd hb u. let q = non_blank_at p T (next (sets_a p) j) d b u in in_W (next (sets_a p) j) d b (next_lt (sets_a p) j hj) hd hb q.0 q.1)
          c a (steps_of_lem p _ c a (l.to_next z)))

      low_way : (c a : ℕ) → (r ≡ 0 → ⊥) → Steps p (lower p T j (level_of (sets_c p) r)) c a → steps p (mem p Y) c a ≡ true
      low_way c a z h = steps_mono p (lower p T j (level_of (sets_c p) r)) (mem p Y)
          (λ d b hd hb u. let q = at_most_at p T j _ d b (rw (lower_at_most p T j (level_of (sets_c p) r) d b w.concrete.sets_low (level_low (sets_c p) r)) at u) in
          ih d b hd hb q.0 (omega (arith, q.1, level_below (sets_c p) r z)))
          c a (steps_of_lem p _ c a h)

      stay_way : (c a : ℕ) → Steps p (at_most p T j r) c a → steps p (mem p U) c a ≡ true
      stay_way c a h = steps_mono p (at_most p T j r) (mem p U)
          (λ d b hd hb u. let q = at_most_at p T j r d b u in in_U d b hd hb q.0 q.1) c a (steps_of_lem p _ c a h)

      at_r : (c a : ℕ) → c < n_c p → a < n_a p → entry p T j c a ≡ r → InX p G Y (set_of (sets_c p) r) U c a
      at_r c a hc ha e =
          let l = line c a hc ha (covers_of p T j c a (λ b. omega arith)) in
          by_cases (ℕ_discrete r 0) (λ z. goal (goal_way c a hc ha l (e ∙ z))) (λ z. ⊎_elim
          (λ i. lower_way (low_way c a z (rw e at (l.inside (λ y. z (sym e ∙ y)) (rw e i)))))
          (λ o. stay o (stay_way c a (rw e at (l.outside (λ y. z (sym e ∙ y)) (rw e o)))))
          (dec (in_fair_set p.concrete (set_of (sets_c p) r) c)))

      meets : (c a : ℕ) → c < n_c p → a < n_a p → mem p U c a ≡ true → (matched p c a ≡ true) × InX p G Y (set_of (sets_c p) r) U c a
      unfolding U Y
      meets c a hc ha u =
          let q = of_set p _ c a hc ha u in
          ⊎_elim (λ v. by_cases (dec_lt (entry p T j c a) r)
          (λ l. levels_way p G _ U c a hc ha (ih c a hc ha q.0 l))
          (λ l. (q.0, at_r c a hc ha (omega (arith, leb-true (entry p T j c a) r v)))))
          (λ v. levels_way p G _ U c a hc ha v) (or_e q.1)

      one_more : (c a : ℕ) → c < n_c p → a < n_a p → matched p c a ≡ true → entry p T j c a ≤ r → mem p Y c a ≡ true
      unfolding Y
      one_more c a hc ha m l = (levels_is p G).of c a hc ha (level_of_lem p G Y (set_of (sets_c p) r) c a (set_lt (sets_c p) r w.concrete.sets_low) hc ha
          ((x_over_is p G Y (set_of (sets_c p) r)).largest U meets c a hc ha (in_U c a hc ha m l)))

    in_Y : (r : ℕ) → r < blank → (c a : ℕ) → c < n_c p → a < n_a p → matched p c a ≡ true → entry p T j c a ≤ r → mem p Y c a ≡ true
    in_Y zero hr = one_more 0 hr (λ c a hc ha m l. absurd (omega arith))
    in_Y (suc r) hr = one_more (suc r) hr (λ c a hc ha m l. in_Y r (omega arith) c a hc ha m (omega arith))

    section_within : Within p (get_or W j []) (levels p (goals p W j))
    unfolding G Y
    section_within c a hc ha u =
        let l = line c a hc ha (of_W j c a hj hc ha u) in
        in_Y (entry p T j c a) (omega (arith, l.bounded, ranks_small p w)) c a hc ha l.is_matched (omega arith)

  pub table_covers : (j c a : ℕ) → j < sets_a p → c < n_c p → a < n_a p → covers p T j c a ≡ true → covers p (solver_table p) j c a ≡ true
  table_covers j c a hj hc ha u =
      family_covered p w j c a hj hc ha ((family_is p).largest W section_within j hj c a hc ha
      (in_W j c a hj hc ha (line j hj c a hc ha u).is_matched u))
