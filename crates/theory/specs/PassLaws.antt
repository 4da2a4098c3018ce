-- The solver's table passes each line.
use Rattle.std.specs.Prelude.{true, false, List, [], ◌≡◌, ℕ, suc, ◌+◌, ◌-◌, ◌*◌, ◌≤◌, ◌<◌, get_or}
use Rattle.std.proofs.Common.{sym, ◌∙◌, arith}
use Rattle.mask.specs.LogicLaws.{clash, refute}
use Rattle.machine.specs.declared.Pair.{Pair}
use Rattle.machine.specs.Machines.{in_fair_set, matched, next, n_c, n_a, sets_c, sets_a, pairs}
use Rattle.machine.specs.WellFormedLaws.{WellPair}
use Rattle.machine.specs.Step.{steps}
use Rattle.machine.specs.StepLaws.{next_lt, Steps, steps_at, steps_mono}
use Rattle.machine.specs.Game.{mem, goals, level, x_set, family}
use Rattle.machine.specs.Ranks.{rank, solver_table}
use Rattle.machine.specs.Table.{entry, covers}
use Rattle.machine.specs.Lines.{non_blank, at_most, passes, passes_each}
use Rattle.machine.specs.LinesLaws.{covers_at, covers_of, non_blank_of, at_most_of, lower_at_most, Passing, passes_of, passes_blank, each_of}
use Rattle.theory.specs.Statements.{IsPlace}
use Rattle.theory.specs.GameLaws.{InX, goal, lower as lower_way, stay, of_all_matched, level_levels, levels_matched}
use Rattle.theory.specs.FamilyLaws.{goals_at, family_is}
use Rattle.theory.specs.TowerLaws.{place_back, x_is}
use Rattle.theory.specs.RankLaws.{Ranked, is_goal, is_placed, is_outside, place_bounded, rank_le, level_rank, table_rank, section_ranked_lem, rank_covered}

module _ (p : Pair) (w : WellPair p) where
  -- the solver's table covers the family
  pub family_covered : (j c a : ℕ) → j < sets_a p → c < n_c p → a < n_a p → mem p (get_or (family p) j []) c a ≡ true → covers p (solver_table p) j c a ≡ true
  family_covered j c a hj hc ha t =
      covers_of p (solver_table p) j c a (λ e. (rank_covered p w j c a hj hc ha).1 t (sym (table_rank p j c a hj hc ha) ∙ e))

  family_non_blank : (j c a : ℕ) → j < sets_a p → c < n_c p → a < n_a p → mem p (get_or (family p) j []) c a ≡ true
      → non_blank p (solver_table p) j c a ≡ true
  family_non_blank j c a hj hc ha t = non_blank_of p (solver_table p) j c a
      (of_all_matched p c a hc ha (levels_matched p _ c a hc ha ((family_is p).at j hj c a hc ha t))) (family_covered j c a hj hc ha t)

  module _ (j : ℕ) (hj : j < sets_a p) where
    -- a pair that steps into matched pairs of rank at most r steps into those with entry at most r
    into : (S : List ℕ) (r c a : ℕ)
        → ((d b : ℕ) → d < n_c p → b < n_a p → mem p S d b ≡ true → (matched p d b ≡ true) × (rank p j d b ≤ r))
        → steps p (mem p S) c a ≡ true → Steps p (at_most p (solver_table p) j r) c a
    into S r c a h t = steps_at p _ c a (steps_mono p (mem p S) (at_most p (solver_table p) j r)
        (λ d b hd hb u. let q = h d b hd hb u in at_most_of p (solver_table p) j r d b q.0 (rw (table_rank p j d b hj hd hb) q.1)) c a t)

    goal_passes : (c a : ℕ) → c < n_c p → a < n_a p → mem p (goals p (family p) j) c a ≡ true → entry p (solver_table p) j c a ≡ 0
        → Passing p (solver_table p) j c a
    goal_passes c a hc ha t e =
        let q = goals_at p (family p) j c a hc ha t in
        record {
          is_matched = q.0;
          bounded = omega arith;
          in_set = λ z. q.1;
          to_next = λ z. steps_at p _ c a (steps_mono p _ (non_blank p (solver_table p) (next (sets_a p) j))
              (λ d b hd hb u. family_non_blank (next (sets_a p) j) d b (next_lt (sets_a p) j hj) hd hb u) c a q.2);
          inside = λ z. absurd (z e);
          outside = λ z. absurd (z e);
        }

    -- level l holds ranks up to l × m, and X(l + 1, k) those up to its own place
    level_bound : (l d b : ℕ) → l ≤ pairs p → d < n_c p → b < n_a p → mem p (level p (goals p (family p) j) l) d b ≡ true
        → (matched p d b ≡ true) × (rank p j d b ≤ l * sets_c p)
    level_bound l d b hl hd hb t = (
      of_all_matched p d b hd hb (levels_matched p _ d b hd hb (level_levels p _ l d b hd hb t)),
      level_rank p hd hb (section_ranked_lem p j d b) l hl t,
    )

    x_bound : (l k d b : ℕ) → l < pairs p → k < sets_c p → d < n_c p → b < n_a p → mem p (x_set p (goals p (family p) j) (suc l) k) d b ≡ true
        → (matched p d b ≡ true) × (rank p j d b ≤ l * sets_c p + k + 1)
    x_bound l k d b hl hk hd hb t = (((x_is p _ l k).at d b hd hb t).0, rank_le p (section_ranked_lem p j d b) l k hl hk t)

    -- a pair of X(l + 1, k) that is no goal: in rig set k it steps lower, and elsewhere no higher
    ways : (l k c a : ℕ) → l < pairs p → k < sets_c p → mem p (goals p (family p) j) c a ≡ false
        → InX p (goals p (family p) j) (level p (goals p (family p) j) l) k (x_set p (goals p (family p) j) (suc l) k) c a
        → (in_fair_set p.concrete k c ≡ true → Steps p (at_most p (solver_table p) j (l * sets_c p)) c a)
        × Steps p (at_most p (solver_table p) j (l * sets_c p + k + 1)) c a
    ways l k c a hl hk g (goal t) = absurd (clash g t)
    ways l k c a hl hk g (lower_way t) = (
      λ i. into _ _ c a (λ d b hd hb u. level_bound l d b (omega arith) hd hb u) t,
      into _ _ c a (λ d b hd hb u. let q = level_bound l d b (omega arith) hd hb u in (q.0, omega (arith, q.1))) t,
    )
    ways l k c a hl hk g (stay o t) = (λ i. absurd (clash o i), into _ _ c a (λ d b hd hb u. x_bound l k d b hl hk hd hb u) t)

    placed_passes : (c a l k : ℕ) → c < n_c p → a < n_a p → mem p (goals p (family p) j) c a ≡ false
        → IsPlace p (goals p (family p) j) c a (rank p j c a) l k → Passing p (solver_table p) j c a
    placed_passes c a l k hc ha g q =
        let e : entry p (solver_table p) j c a ≡ (l - 1) * sets_c p + k + 1 = table_rank p j c a hj hc ha ∙ q.is_r in
        let up : l ≡ suc (l - 1) = omega (arith, q.l_low) in
        let back = place_back (sets_c p) l k q.l_low q.k_high in
        let x = (x_is p (goals p (family p) j) (l - 1) k).at c a hc ha (rw up at q.is_in) in
        let way = ways (l - 1) k c a (omega (arith, q.l_low, q.l_high)) q.k_high g x.1 in
        record {
          is_matched = x.0;
          bounded = rw (table_rank p j c a hj hc ha) (place_bounded p q);
          in_set = λ z. absurd (omega arith);
          to_next = λ z. absurd (omega arith);
          inside = λ z. rw (e, back.0, back.1) (λ i d hd u. let s = way.0 i d hd u in
              (s.0, s.1, s.2, lower_at_most p (solver_table p) j l d s.0 w.concrete.sets_low q.l_low ∙ s.3));
          outside = λ z. rw e (λ o. way.1);
        }

    entry_passes_lem : (c a : ℕ) → c < n_c p → a < n_a p → passes p (solver_table p) j c a ≡ true
    entry_passes_lem c a hc ha = go (section_ranked_lem p j c a)
      where
        is : entry p (solver_table p) j c a ≡ rank p j c a
        is = table_rank p j c a hj hc ha

        go : Ranked p (goals p (family p) j) c a (rank p j c a) → passes p (solver_table p) j c a ≡ true
        go (is_goal t e) = passes_of p (solver_table p) j c a (goal_passes c a hc ha t (is ∙ e))
        go (is_placed l k t q) = passes_of p (solver_table p) j c a (placed_passes c a l k hc ha t q)
        go (is_outside t o e) = passes_blank p (solver_table p) j c a (refute _ (λ u. covers_at p (solver_table p) j c a u (is ∙ e)))

  pub table_passes : passes_each p (solver_table p) ≡ true
  table_passes = each_of p (solver_table p) (λ j c a hj hc ha. entry_passes_lem j hj c a hc ha)
