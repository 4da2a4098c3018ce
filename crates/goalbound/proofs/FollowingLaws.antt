-- Why a goal is met: before it, entries never rise (soundness's answers, read in one section), and each stretch has a move at which the entry falls if it
-- is still that of the stretch's first pair. So after as many stretches as the first entry says, an entry 0 has been met.
use Rattle.std.specs.Prelude.{Bool, true, List, [], ◌≢◌, ◌≡◌, ℕ, zero, suc, ◌+◌, ◌-◌, ◌≤◌, ◌<◌, length, get_or, eqb}
use Rattle.std.proofs.Math.Logic.{by_cases}
use Rattle.std.proofs.Math.Decide.{dec_lt}
use Rattle.std.proofs.Common.{sym, ◌∙◌, arith, add-suc, add-zero, eqb-true, eq-eqb}
use Rattle.std.proofs.lemmas.Bool.{eqb-false}
use Rattle.mask.specs.LogicLaws.{and_r}
use Rattle.mask.specs.Bounded.{first}
use Rattle.mask.specs.BoundedLaws.{first_has, first_before}
use Rattle.mask.specs.Tables.{table}
use Rattle.mask.specs.TablesLaws.{table_length, table_at}
use Rattle.machine.specs.declared.Pair.{Pair}
use Rattle.machine.specs.Machines.{n_c, n_a, sets_c, sets_a, successors, moves, next, in_fair_set}
use Rattle.machine.specs.SingleStep.{Candidate}
use Rattle.machine.specs.WellFormedLaws.{WellPair}
use Rattle.machine.specs.StepLaws.{next_lt, steps_of_lem, steps_mono}
use Rattle.machine.specs.Game.{mem, family}
use Rattle.machine.specs.Ranks.{set_of, solver_table}
use Rattle.machine.specs.LevelLaws.{set_lt}
use Rattle.machine.specs.Table.{blank, entry}
use Rattle.machine.specs.Lines.{non_blank, passes_each}
use Rattle.machine.specs.LinesLaws.{covers_at, covers_of, non_blank_at, passes_covered, passes_at, each_at}
use Rattle.machine.specs.Player.{Place, section_after, step_to}
use Rattle.soundness.specs.Cycle.{lower_after}
use Rattle.soundness.specs.AnswerLaws.{Covered, Answer, section_stays, step_section, answer_of, step_chosen}
use Rattle.theory.specs.FamilyLaws.{goals_of}
use Rattle.theory.specs.RankLaws.{rank_covered, table_rank}
use Rattle.theory.specs.CoverLaws.{table_covers}
use Rattle.goalbound.proofs.StretchLaws.{stretch_at, cut_last, lower_by}
use Rattle.goalbound.specs.Following.{state_at, IsMoves, is_stretch, IsCut, LeastPartner, NoneBefore, Follows, IsGoal, MeetsGoal}

-- ---- a passing table
module _ (p : Pair) (T : List ℕ) (w : WellPair p) (passing : passes_each p T ≡ true) (j : ℕ) (hj : j < sets_a p) where
  -- a pair that is not blank in a section of T is one of the family there
  in_family : (i d b : ℕ) → i < sets_a p → d < n_c p → b < n_a p → non_blank p T i d b ≡ true → mem p (get_or (family p) i []) d b ≡ true
  in_family i d b hi hd hb t = (rank_covered p w i d b hi hd hb).0
      (λ e. covers_at p (solver_table p) i d b (table_covers p w T passing i d b hi hd hb (non_blank_at p T i d b t).1) (table_rank p i d b hi hd hb ∙ e))

  pub zero_goal : (c a : ℕ) → c < n_c p → a < n_a p → entry p T j c a ≡ 0 → IsGoal p T j c a
  zero_goal c a hc ha z =
      let some : entry p T j c a ≡ blank → ⊥ = λ b. omega arith in
      let pass = each_at p T passing j c a hj hc ha in
      let q = passes_at p T j c a pass (covers_of p T j c a some) in
      record {
        zero = z;
        line = rw (eq-eqb _ _ z) at (and_r _ _ (and_r _ _ (sym (passes_covered p T j c a some) ∙ pass)));
        goal = goals_of p (family p) j c a hc ha q.is_matched (q.in_set z) (steps_mono p (non_blank p T (next (sets_a p) j)) _
            (λ d b hd hb t. in_family (next (sets_a p) j) d b (next_lt (sets_a p) j hj) hd hb t) c a (steps_of_lem p _ c a (q.to_next z)));
      }

  -- ---- one move, in this section
  abbrev here : ℕ → Place
  here a = record { state = a; section = j }

  pub pair_here : (c a : ℕ) → a < n_a p → non_blank p T j c a ≡ true → Covered p T c (here a)
  pair_here c a ha t = record { bound = ha; section_bound = hj; covered = t }

  module _ (c a d : ℕ) (hc : c < n_c p) (h : Covered p T c (here a)) (hd : d < n_c p) (m : moves p.concrete c d ≡ true) (z : entry p T j c a ≢ 0) where
    kept : section_after p T c (here a) ≡ j
    kept = section_stays p T c (here a) z

    pub partner_answers : (b : ℕ) → LeastPartner p T j a d b → Answer p T c d (here a) (here b)
    partner_answers b x =
        let least : (i : ℕ) → Candidate (successors p.abstraction a) (non_blank p T j d) i → entry p T j d b ≤ entry p T j d i =
        λ i q. omega (arith, x.least i q) in
        rw kept at (answer_of p T w passing c d (here a) hc h hd m b (rw kept x.partner) (rw kept least))

    -- the partner that the player takes is one
    pub player_least : LeastPartner p T j a d (step_to p T c (here a) d).state
    player_least =
        let x = step_chosen p T w passing c d (here a) hc h hd m in
        let stays = step_section p T c d (here a) ∙ kept in
        record { partner = rw stays at x.candidate; least = rw stays at x.least }

  -- ---- move by move, the score's states as a function
  module _ (rig : List ℕ) (moved : IsMoves p.concrete rig) (score : ℕ → ℕ) where
    abbrev NotYet : ℕ → Type 0
    NotYet t = (i : ℕ) → i < t → entry p T j (state_at rig i) (score i) ≢ 0

    abbrev Goes : ℕ → Type 0
    Goes t = Covered p T (state_at rig t) (here (score t))

    abbrev Met : ℕ → Type 0
    Met t = LeastPartner p T j (score t) (state_at rig (suc t)) (score (suc t))

    move_answers : (t : ℕ) → suc t < length rig → Goes t → entry p T j (state_at rig t) (score t) ≢ 0 → Met t
        → Answer p T (state_at rig t) (state_at rig (suc t)) (here (score t)) (here (score (suc t)))
    move_answers t l h z = partner_answers (state_at rig t) (score t) (state_at rig (suc t)) (moved.bound t (omega arith)) h
        (moved.bound (suc t) l) (moved.step t l) z (score (suc t))

    -- if each move before the first entry 0 is met with a partner of least entry, each pair up to it is not blank
    goes_on : Goes 0 → ((t : ℕ) → suc t < length rig → NotYet (suc t) → Goes t → Met t) → (t : ℕ) → t < length rig → NotYet t → Goes t
    goes_on h meets zero l none = h
    goes_on h meets (suc t) l none =
        let before = goes_on h meets t (omega arith) (λ i q. none i (omega arith)) in
        (move_answers t l before (none t (omega arith)) (meets t l none before)).again

  -- ---- moves that follow the table
  module _ (rig score : List ℕ) (f : Follows p T j rig score) where
    abbrev entries_at : ℕ → ℕ
    entries_at t = entry p T j (state_at rig t) (state_at score t)

    -- each pair up to the first entry 0 is not blank; that no moment up to t has entry 0 is handed on moment by moment, so that the edit `followed_past_goal`
    -- is refused in `followed`, where it makes existence false, and not here
    pub follows_covered : (t : ℕ) → t < length rig → NoneBefore p T j rig score t → Covered p T (state_at rig t) (here (state_at score t))
    follows_covered = goes_on rig f.rig_moves (state_at score) (pair_here (state_at rig 0) (state_at score 0) f.bound f.covered)
        (λ t l none h. f.meets t l (λ i b. none i (omega arith)))

    follows_answers : (t : ℕ) → suc t < length rig → NoneBefore p T j rig score (suc t)
        → Answer p T (state_at rig t) (state_at rig (suc t)) (here (state_at score t)) (here (state_at score (suc t)))
    follows_answers t l none = move_answers rig f.rig_moves (state_at score) t l (follows_covered t (omega arith) (λ i q. none i (omega arith)))
        (none t (omega arith)) (f.meets t l (λ i b. none i (omega arith)))

    pub follows_partner : (t : ℕ) → t < length rig → NoneBefore p T j rig score (suc t)
        → (d : ℕ) → d < n_c p → moves p.concrete (state_at rig t) d ≡ true → (b : ℕ) × LeastPartner p T j (state_at score t) d b
    follows_partner t l none d hd m = (
      _,
      player_least (state_at rig t) (state_at score t) d (f.rig_moves.bound t l)
          (follows_covered t l (λ i q. none i (omega arith))) hd m (none t (omega arith)),
    )

    -- over a stretch without an entry 0 the entry falls
    stretch_falls : (u v : ℕ) → v < length rig → NoneBefore p T j rig score v → is_stretch p.concrete rig u v ≡ true → entries_at v < entries_at u
    stretch_falls u v l none t =
        let r = entries_at u in
        let q = stretch_at p.concrete rig u v t (set_of (sets_c p) r) (set_lt (sets_c p) r w.concrete.sets_low) in
        let order : u + (v - u) ≡ v = omega (arith, q.1) in
        let answers : (i : ℕ) → i < v - u
        → Answer p T (state_at rig (u + i)) (state_at rig (u + suc i)) (here (state_at score (u + i))) (here (state_at score (u + suc i))) =
        λ i b. rw add-suc (follows_answers (u + i) (omega arith) (λ k h. none k (omega arith))) in
        let ne : (i : ℕ) → i < v - u → entries_at (u + i) ≢ 0 = λ i b. none (u + i) (omega arith) in
        let less = lower_after (λ i. entries_at (u + i)) (λ r i. in_fair_set p.concrete (set_of (sets_c p) r) (state_at rig (u + i))) (v - u)
        (λ i b. (answers i b).stays (ne i b)) (λ i b. (answers i b).falls (ne i b)) (rw (add-zero u) q) in
        rw (order, add-zero u) at less

    -- a goal is met by the end of as many stretches as the first entry says, or of more
    pub goal_met : (n : ℕ) (cut : ℕ → ℕ) → IsCut p.concrete rig n cut → entries_at 0 ≤ n → MeetsGoal p T j rig score (cut n)
    goal_met n cut h most = by_cases (dec_lt when (suc (cut n))) found none_found
      where
        is_zero : ℕ → Bool
        is_zero t = eqb (entries_at t) 0

        when : ℕ
        when = first (suc (cut n)) is_zero

        before : NoneBefore p T j rig score when
        before i l = eqb-false _ _ (first_before (suc (cut n)) is_zero i l)

        found : when < suc (cut n) → MeetsGoal p T j rig score (cut n)
        found l =
            let in_list : when < length rig = omega (arith, h.ends) in
            let at = follows_covered when in_list before in
            let zero = eqb-true _ _ (first_has (suc (cut n)) is_zero l) in
            record {
              when = when;
              listed = in_list;
              soon = omega arith;
              before = before;
              goal = zero_goal (state_at rig when) (state_at score when) (f.rig_moves.bound when in_list) at.bound zero;
            }

        -- without one the entry would have fallen in each stretch
        none_found : (when < suc (cut n) → ⊥) → MeetsGoal p T j rig score (cut n)
        none_found past =
            let none : NoneBefore p T j rig score (suc (cut n)) = λ i l. before i (omega arith) in
            let last = cut_last p.concrete rig n cut h w.concrete.sets_low in
            let fallen = lower_by entries_at cut h.begins n (λ i l. stretch_falls (cut i) (cut (suc i)) (omega (arith, last (suc i) l, h.ends))
            (λ k b. none k (omega (arith, last (suc i) l))) (h.stretch i l)) in
            absurd (none (cut n) (omega arith) (omega (arith, fallen)))

  -- ---- the player's partners follow any list of moves
  module _ (rig : List ℕ) (moved : IsMoves p.concrete rig) (a : ℕ) (ha : a < n_a p) (t : non_blank p T j (state_at rig 0) a ≡ true) where
    -- the score's states
    played : ℕ → ℕ
    played zero = a
    played (suc t) = (step_to p T (state_at rig t) (here (played t)) (state_at rig (suc t))).state

    meets_move : (t : ℕ) → suc t < length rig → NotYet rig moved played (suc t) → Goes rig moved played t → Met rig moved played t
    unfolding played
    meets_move t l none h = player_least (state_at rig t) (played t) (state_at rig (suc t)) (moved.bound t (omega arith)) h
        (moved.bound (suc t) l) (moved.step t l) (none t (omega arith))

    begins : Covered p T (state_at rig 0) (here (played 0))
    unfolding played
    begins = pair_here (state_at rig 0) a ha t

    row : List ℕ
    row = table (length rig) played

    row_at : (t : ℕ) → t < length rig → state_at row t ≡ played t
    unfolding row
    row_at t l = table_at (length rig) played t 0 l

    row_first : state_at row 0 ≡ a
    unfolding played
    row_first = row_at 0 moved.some_state

    pub followed : (score : List ℕ) × (state_at score 0 ≡ a) × Follows p T j rig score
    unfolding row
    followed = (
      row,
      row_first,
      record {
        rig_moves = moved;
        as_long = table_length (length rig) played;
        bound = rw row_first ha;
        covered = rw row_first t;
        meets = λ t l none.
            let not_yet : NotYet rig moved played (suc t) = λ i b. let same = row_at i (omega arith) in rw same at (none i b) in
            let goes = goes_on rig moved played begins meets_move t (omega arith) (λ i b. not_yet i (omega arith)) in
            rw (row_at t (omega arith), row_at (suc t) l) (meets_move t l not_yet goes);
      },
    )
