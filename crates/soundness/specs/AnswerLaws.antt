-- The player's rule answers each move of the concrete machine: the lines give a partner, and entries never rise until a goal is met.
use Rattle.std.specs.Prelude.{Bool, true, List, ◌≢◌, ◌≡◌, refl, ℕ, ◌-◌, ◌*◌, ◌≤◌, ◌<◌}
use Rattle.std.proofs.Common.{⊎_elim, ◌∙◌, arith, eq-eqb, ne_eqb}
use Rattle.std.proofs.Math.Logic.{by_cases}
use Rattle.std.proofs.Math.Decide.{ℕ_discrete}
use Rattle.mask.specs.LogicLaws.{dec, clash}
use Rattle.mask.specs.Bits.{has_bit}
use Rattle.mask.specs.BoundedLaws.{some_in_at, some_in_of}
use Rattle.machine.specs.declared.Pair.{Pair}
use Rattle.machine.specs.Machines.{n_c, n_a, sets_c, sets_a, successors, moves, starts, in_fair_set, next}
use Rattle.machine.specs.Step.{partner, found, state_of}
use Rattle.machine.specs.StepLaws.{Steps}
use Rattle.machine.specs.PartnerLaws.{partner_found, partner_at, found_state}
use Rattle.machine.specs.SingleStep.{Candidate, Best, Chosen}
use Rattle.machine.specs.SingleStepLaws.{single_found, chosen_named}
use Rattle.machine.specs.Table.{entry}
use Rattle.machine.specs.Ranks.{level_of, set_of}
use Rattle.machine.specs.LevelLaws.{level_low, level_below}
use Rattle.machine.specs.Lines.{non_blank, at_most, passes_each}
use Rattle.machine.specs.LinesLaws.{Passing, passes_at, each_at, covers_of, non_blank_at, non_blank_of, at_most_at, lower_at_most}
use Rattle.machine.specs.Verdict.{start_covered}
use Rattle.machine.specs.WellFormedLaws.{WellPair, ranks_small}
use Rattle.machine.specs.Player.{Place, start_partner, section_after, follow, step_to}
use Rattle.machine.specs.PlayerLaws.{section_lt}

-- one is named if there is any
named : (moves : ℕ) (S : ℕ → Bool) (key : ℕ → ℕ) (i : ℕ) → i < 64 → has_bit moves i ≡ true → S i ≡ true → found (partner moves S key) ≡ true
named moves S key i h t u = partner_found moves S key ∙ some_in_of 64 moves S i h t u

module _ (p : Pair) (T : List ℕ) where
  -- a place whose pair beside c is one of the table's
  pub record Covered (c : ℕ) (at : Place) : Type 0 where
    pub bound : at.state < n_a p
    pub section_bound : at.section < sets_a p
    pub covered : non_blank p T at.section c at.state ≡ true

  -- the entry of a place beside c
  abbrev pub entry_at : ℕ → Place → ℕ
  entry_at c at = entry p T at.section c at.state

  -- what an answer `to`, at the place `at`, to a move from c to d has: entries never rise while they are not 0, and fall in rig set k
  pub record Answer (c d : ℕ) (at to : Place) : Type 0 where
    pub again : Covered d to
    pub moved : moves p.abstraction at.state to.state ≡ true
    pub stays : entry_at c at ≢ 0 → entry_at d to ≤ entry_at c at
    pub falls : entry_at c at ≢ 0 → in_fair_set p.concrete (set_of (sets_c p) (entry_at c at)) c ≡ true → entry_at d to < entry_at c at

  -- b is a successor that is not blank beside d, in the section after the place `at`
  abbrev Partner : (c d : ℕ) → Place → ℕ → Type 0
  Partner c d at = Candidate (successors p.abstraction at.state) (non_blank p T (section_after p T c at) d)

  section_goal : (c : ℕ) (at : Place) → entry_at c at ≡ 0 → section_after p T c at ≡ next (sets_a p) at.section
  unfolding section_after
  section_goal c at e = rw (eq-eqb _ _ e)

  pub section_stays : (c : ℕ) (at : Place) → entry_at c at ≢ 0 → section_after p T c at ≡ at.section
  unfolding section_after
  section_stays c at e = rw (ne_eqb _ _ e)

  pub step_section : (c d : ℕ) (at : Place) → (step_to p T c at d).section ≡ section_after p T c at
  unfolding step_to
  step_section c d at = refl

  -- the partner that the pair's line gives
  record LinePartner (c d : ℕ) (at : Place) : Type 0 where
    who : ℕ
    low : who < n_a p
    moved : moves p.abstraction at.state who ≡ true
    covered : non_blank p T (section_after p T c at) d who ≡ true
    stays : entry_at c at ≢ 0 → entry p T (section_after p T c at) d who ≤ entry_at c at
    falls : entry_at c at ≢ 0 → in_fair_set p.concrete (set_of (sets_c p) (entry_at c at)) c ≡ true → entry p T (section_after p T c at) d who < entry_at c at

  module _ (w : WellPair p) (passing : passes_each p T ≡ true) where
    pub passing_at : (c : ℕ) (at : Place) → c < n_c p → Covered c at → Passing p T at.section c at.state
    passing_at c at hc h =
        passes_at p T at.section c at.state (each_at p T passing at.section c at.state h.section_bound hc h.bound)
        (non_blank_at p T at.section c at.state h.covered).1

    -- states are bits of a mask
    small : {i : ℕ} → i < n_a p → i < 64
    small h = omega (arith, w.abstraction.states_high)

    -- an entry that is small enough is not blank
    small_covered : (j c a r : ℕ) → r ≤ sets_c p * (n_c p * n_a p) → at_most p T j r c a ≡ true → non_blank p T j c a ≡ true
    small_covered j c a r h t =
        let q = at_most_at p T j r c a t in
        non_blank_of p T j c a q.0 (covers_of p T j c a (λ e. omega (arith, q.1, ranks_small p w)))

    -- in a goal, the next section has it; elsewhere the line bounds its entry
    line_partner_goal : (c d : ℕ) (at : Place) → c < n_c p → Covered c at → d < n_c p → moves p.concrete c d ≡ true → entry_at c at ≡ 0 → LinePartner c d at
    line_partner_goal c d at hc h hd m e =
        let b = (passing_at c at hc h).to_next e d hd m in
        record {
          who = b.0;
          low = b.1;
          moved = b.2;
          covered = rw (section_goal c at e) b.3;
          stays = λ z. absurd (z e);
          falls = λ z. absurd (z e);
        }

    line_partner_ranked : (c d : ℕ) (at : Place) → c < n_c p → Covered c at → d < n_c p → moves p.concrete c d ≡ true → entry_at c at ≢ 0
        → (bound : ℕ) → bound ≤ entry_at c at → (in_fair_set p.concrete (set_of (sets_c p) (entry_at c at)) c ≡ true → bound < entry_at c at)
        → Steps p (at_most p T at.section bound) c at.state → LinePartner c d at
    line_partner_ranked c d at hc h hd m z bound most less line =
        let b = line d hd m in
        let small = (at_most_at p T at.section bound d b.0 b.3).1 in
        record {
          who = b.0;
          low = b.1;
          moved = b.2;
          covered = rw (section_stays c at z) (small_covered at.section d b.0 bound (omega (arith, (passing_at c at hc h).bounded)) b.3);
          stays = λ z. rw (section_stays c at z) (omega arith);
          falls = λ z i. rw (section_stays c at z) (omega (arith, less i));
        }

    line_partner : (c d : ℕ) (at : Place) → c < n_c p → Covered c at → d < n_c p → moves p.concrete c d ≡ true → LinePartner c d at
    line_partner c d at hc h hd m = by_cases (ℕ_discrete r 0) (line_partner_goal c d at hc h hd m)
        (λ z. ⊎_elim
        (λ i. line_partner_ranked c d at hc h hd m z ((level_of (sets_c p) r - 1) * sets_c p) (omega (arith, level_below (sets_c p) r z)) (λ i. level_below (sets_c p) r z) (lowered z i))
        (λ o. line_partner_ranked c d at hc h hd m z r (omega arith) (λ i. absurd (clash o i)) (line.outside z o))
        (dec (in_fair_set p.concrete (set_of (sets_c p) r) c)))
      where
        r : ℕ
        r = entry_at c at

        line : Passing p T at.section c at.state
        line = passing_at c at hc h

        lowered : r ≢ 0 → in_fair_set p.concrete (set_of (sets_c p) r) c ≡ true → Steps p (at_most p T at.section ((level_of (sets_c p) r - 1) * sets_c p)) c at.state
        lowered z i d hd m =
            let b = line.inside z i d hd m in
            (b.0, b.1, b.2, rw (lower_at_most p T at.section (level_of (sets_c p) r) d b.0 w.concrete.sets_low (level_low (sets_c p) r)) at b.3)

    -- any partner of least entry is an answer, whatever the rule for ties
    pub answer_of : (c d : ℕ) (at : Place) → c < n_c p → Covered c at → d < n_c p → moves p.concrete c d ≡ true → (b : ℕ) → Partner c d at b
        → ((i : ℕ) → Partner c d at i → entry p T (section_after p T c at) d b ≤ entry p T (section_after p T c at) d i)
        → Answer c d at (record { state = b; section = section_after p T c at })
    unfolding moves
    answer_of c d at hc h hd m b x least =
        let k = line_partner c d at hc h hd m in
        let most = least k.who (record { below = small k.low; moved = k.moved; inside = k.covered }) in
        record {
          again = record { bound = w.abstraction.move_bits at.state b h.bound x.below x.moved; section_bound = section_lt p T c at h.section_bound; covered = x.inside };
          moved = x.moved;
          stays = λ z. omega (arith, k.stays z, most);
          falls = λ z i. omega (arith, k.falls z i, most);
        }

    module _ (c d : ℕ) (at : Place) (hc : c < n_c p) (h : Covered c at) (hd : d < n_c p) (m : moves p.concrete c d ≡ true) where
      -- the rule's answer is the partner that the single step chooses
      pub step_chosen : let to = step_to p T c at d in
          Chosen at.state (successors p.abstraction at.state) (non_blank p T to.section d) (entry p T to.section d) to.state
      unfolding step_to follow moves
      step_chosen =
          let k = line_partner c d at hc h hd m in
          chosen_named at.state (entry p T (section_after p T c at) d) _ _
          (single_found at.state _ _ _ ∙ some_in_of 64 _ _ k.who (small k.low) k.moved k.covered)

      pub step_answers : Answer c d at (step_to p T c at d)
      unfolding step_to
      step_answers = let x = step_chosen in answer_of c d at hc h hd m _ x.candidate x.least

    -- the rule's start, where there is a partner, is the lowest start state of least entry
    pub start_best : (c : ℕ) → found (start_partner p T c) ≡ true → Best p.abstraction.start (non_blank p T 0 c) (entry p T 0 c) (state_of (start_partner p T c))
    unfolding start_partner
    start_best c t = partner_at p.abstraction.start (non_blank p T 0 c) (entry p T 0 c) _ (found_state _ t)

    pub start_place : (c : ℕ) → found (start_partner p T c) ≡ true → Covered c (record { state = state_of (start_partner p T c); section = 0 })
        × (starts p.abstraction (state_of (start_partner p T c)) ≡ true)
    unfolding starts
    start_place c t =
        let x = (start_best c t).candidate in (
          record {
            bound = w.abstraction.start_bits _ x.below x.moved;
            section_bound = w.abstraction.sets_low;
            covered = x.inside;
          },
          x.moved,
        )

    -- and there is one beside each concrete start state that the table covers
    pub start_found : (c : ℕ) → c < n_c p → start_covered p T c ≡ true → found (start_partner p T c) ≡ true
    unfolding start_partner start_covered
    start_found c hc t =
        let b = some_in_at _ _ _ t in
        let s = passes_at p T 0 c b.0 (each_at p T passing 0 c b.0 w.abstraction.sets_low hc b.1) b.3 in
        named p.abstraction.start (non_blank p T 0 c) (entry p T 0 c) b.0 (small b.1) b.2
        (non_blank_of p T 0 c b.0 s.is_matched b.3)
