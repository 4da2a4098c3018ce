-- Rows of a well-formed pair are the game's sets: one step to all pairs, goals, and the union of sets.
use Rattle.std.specs.Prelude.{Bool, false, ◌≡◌, refl, ℕ, ◌^◌, ◌≤◌, ◌<◌, ltb, replicate}
use Rattle.std.proofs.Math.Bool.{true, cond}
use mathlib.Core.List.{List, []}
use Rattle.std.proofs.Math.Logic.{⊎_elim, by_cases}
use Rattle.std.proofs.Math.Path.{sym, ap, ap₂}
use Rattle.std.proofs.Common.{◌∙◌, arith, pow_pos, lt-ltb}
use Rattle.std.proofs.Math.Decide.{dec_lt}
use Rattle.std.proofs.Math.ListN.{get_or}
use Rattle.std.specs.Int.Bits.{bit_and}
use Rattle.std.proofs.lemmas.Nat.{and_le_l}
use Rattle.mask.specs.Logic.{and, or}
use Rattle.mask.specs.LogicLaws.{both, clash, and_true_l, and_true_r, and_false_r, or_l, or_e}
use Rattle.mask.specs.Bits.{has_bit}
use Rattle.mask.specs.BitsLaws.{has_and, has_or, has_none}
use Rattle.mask.specs.Bounded.{every_in, some_in}
use Rattle.mask.specs.BoundedLaws.{every_in_at, every_in_of, some_in_at, some_in_of}
use Rattle.mask.specs.Tables.{mask_of, table}
use Rattle.mask.specs.TablesLaws.{table_at, table_past, table_cong, fill_done, mask_of_lt, mask_of_is, has_mask_of_at}
use Rattle.mask.specs.FrontLaws.{zeros_at}
use Rattle.machine.specs.declared.Pair.{Pair}
use Rattle.machine.specs.Machines.{successors, moves, fair_set, in_fair_set, matched, next, n_c, n_a, sets_a}
use Rattle.machine.specs.Step.{single_step, found, alike, steps}
use Rattle.machine.specs.SingleStepLaws.{single_found}
use Rattle.machine.specs.Observed.{matched_masks}
use Rattle.machine.specs.ObservedLaws.{matched_length, matched_at, row_out, has_matched_at, matched_small}
use Rattle.machine.specs.WellFormedLaws.{WellPair}
use Rattle.machine.specs.Game.{pair_set, mem, same_set, all_matched, goals}
use Rattle.theory.specs.GameLaws.{Canonical, pair_set_cong, set_ext, same_of, same_within, same_holds}
use Rattle.rows.specs.Rows.{rows_of, pairs_in, predecessors_of, partners_of, partner_rows, meet_of, step_rows, goal_rows, join_rows, same_rows, abstract_predecessors, steps_of}
use Rattle.rows.specs.RowsLaws.{has_predecessor, no_predecessor, same_yes, same_at}

-- ---- a mask whose states lie below w, read at a larger width
module _ (v w m : ℕ) (f g : ℕ → Bool) (wide : w ≤ v) (fits : (i : ℕ) → i < v → has_bit m i ≡ true → i < w) (alike : (i : ℕ) → i < w → f i ≡ g i) where
  every_in_fit : every_in v m f ≡ every_in w m g
  every_in_fit = both _ _
      (λ t. every_in_of w m g (λ i l e. sym (alike i l) ∙ every_in_at v m f t i (omega arith) e))
      (λ t. every_in_of v m f (λ i l e. let q : i < w = fits i l e in alike i q ∙ every_in_at w m g t i q e))

  some_in_fit : some_in v m f ≡ some_in w m g
  some_in_fit = both _ _
      (λ t. let r = some_in_at v m f t in let q : r.0 < w = fits r.0 r.1 r.2 in some_in_of w m g r.0 q r.2 (sym (alike r.0 q) ∙ r.3))
      (λ t. let r = some_in_at w m g t in some_in_of v m f r.0 (omega (arith, r.1)) r.2 (alike r.0 r.1 ∙ r.3))

-- ---- the union of the predecessors of a row's states has a state exactly if the single step finds it a partner in the row, whatever the present state
pub partners_found : (n : ℕ) (moves : List ℕ) (row present a : ℕ) → a < n → n ≤ 64 → ((b : ℕ) → b < 64 → has_bit (get_or moves a 0) b ≡ true → b < n)
    → has_bit (partners_of (predecessors_of n moves) row) a ≡ found (single_step present (get_or moves a 0) (has_bit row) alike)
unfolding partners_of
partners_found n moves row present a ha wide inside =
    has_mask_of_at 64 _ a (omega arith)
    ∙ both _ _
    (λ t.
    let r = some_in_at 64 row _ t in
    some_in_of 64 (get_or moves a 0) (has_bit row) r.0 r.1 (known r.0 r.1 r.3) r.2)
    (λ t.
    let r = some_in_at 64 (get_or moves a 0) (has_bit row) t in
    some_in_of 64 row _ r.0 r.1 r.3 (listed r.0 r.1 r.2))
    ∙ sym (single_found present alike (get_or moves a 0) (has_bit row))
  where
    known : (b : ℕ) → b < 64 → has_bit (get_or (predecessors_of n moves) b 0) a ≡ true → has_bit (get_or moves a 0) b ≡ true
    known b h t = by_cases (dec_lt b n)
        (λ l. sym (has_predecessor n moves a b wide ha l) ∙ t)
        (λ l. absurd (clash (ap (λ (m : ℕ). has_bit m a) (no_predecessor n moves b (omega arith)) ∙ has_none a) t))

    listed : (b : ℕ) → b < 64 → has_bit (get_or moves a 0) b ≡ true → has_bit (get_or (predecessors_of n moves) b 0) a ≡ true
    listed b h t = has_predecessor n moves a b wide ha (inside b h t) ∙ t

-- ---- sets and their rows
pub rows_at : (S : List ℕ) (c : ℕ) → c < 64 → get_or (rows_of S) c 0 ≡ get_or S c 0
unfolding rows_of
rows_at S c h = table_at 64 (λ i. get_or S i 0) c 0 h

module _ (p : Pair) where
  pub in_at : (rows : List ℕ) (c : ℕ) → c < n_c p → get_or (pairs_in p rows) c 0 ≡ get_or rows c 0
  unfolding pairs_in
  in_at rows c h = table_at (n_c p) (λ i. get_or rows i 0) c 0 h

  pub in_past : (rows : List ℕ) (c : ℕ) → n_c p ≤ c → get_or (pairs_in p rows) c 0 ≡ 0
  unfolding pairs_in
  in_past rows c h = table_past (n_c p) (λ i. get_or rows i 0) c 0 h

  pub mem_in : (rows : List ℕ) (c a : ℕ) → c < n_c p → mem p (pairs_in p rows) c a ≡ has_bit (get_or rows c 0) a
  unfolding mem
  mem_in rows c a h = ap (λ (m : ℕ). has_bit m a) (in_at rows c h)

  pub set_row : (f : ℕ → ℕ → Bool) (c : ℕ) → c < n_c p → get_or (pair_set p f) c 0 ≡ mask_of (n_a p) (λ a. and (matched p c a) (f c a))
  unfolding pair_set
  set_row f c h = table_at (n_c p) _ c 0 h

  pub set_past : (f : ℕ → ℕ → Bool) (c : ℕ) → n_c p ≤ c → get_or (pair_set p f) c 0 ≡ 0
  unfolding pair_set
  set_past f c h = table_past (n_c p) _ c 0 h

  module _ (w : WellPair p) where
    wide : (c : ℕ) → c < n_c p → c < 64
    wide c h = omega (arith, w.concrete.states_high)

    -- a set comes back from its rows
    pub set_back : (S : List ℕ) → Canonical p S → pairs_in p (rows_of S) ≡ S
    unfolding pairs_in pair_set
    set_back S q =
        table_cong (n_c p) _ _ (λ c h. rows_at S c (wide c h) ∙ ap (λ (l : List ℕ). get_or l c 0) q ∙ table_at (n_c p) _ c 0 h) ∙ sym q

    -- rows that have exactly the pairs of f are those of its set
    pub rows_is : (g : ℕ → ℕ) (f : ℕ → ℕ → Bool) → ((c : ℕ) → c < n_c p → g c < 2 ^ n_a p)
        → ((c a : ℕ) → c < n_c p → a < n_a p → has_bit (g c) a ≡ and (matched p c a) (f c a))
        → ((c : ℕ) → n_c p ≤ c → c < 64 → g c ≡ 0) → table 64 g ≡ rows_of (pair_set p f)
    unfolding rows_of
    rows_is g f low bits past = table_cong 64 _ _ (λ c h. by_cases (dec_lt c (n_c p))
        (λ l. mask_of_is (n_a p) (g c) _ (low c l) (λ a q. bits c a l q) ∙ sym (set_row f c l))
        (λ l. past c (omega arith) h ∙ sym (set_past f c (omega arith))))

    -- the rows of a set: their states, their size, and what lies beyond
    row_bit : (f : ℕ → ℕ → Bool) (c a : ℕ) → c < n_c p → a < n_a p → has_bit (get_or (rows_of (pair_set p f)) c 0) a ≡ and (matched p c a) (f c a)
    row_bit f c a hc ha = ap (λ (m : ℕ). has_bit m a) (rows_at (pair_set p f) c (wide c hc) ∙ set_row f c hc) ∙ has_mask_of_at (n_a p) _ a ha

    row_small : (f : ℕ → ℕ → Bool) (c : ℕ) → c < n_c p → get_or (rows_of (pair_set p f)) c 0 < 2 ^ n_a p
    row_small f c h = rw (rows_at (pair_set p f) c (wide c h), set_row f c h) (mask_of_lt (n_a p) _)

    pub rows_small : (S : List ℕ) → Canonical p S → (c : ℕ) → c < n_c p → get_or (rows_of S) c 0 < 2 ^ n_a p
    rows_small S q c h = rw q (row_small (mem p S) c h)

    -- two sets have the same rows exactly if they are the same
    pub rows_same : (n : ℕ) → n_c p ≤ n → n ≤ 64 → (S R : List ℕ) → Canonical p S → Canonical p R → same_rows n (rows_of S) (rows_of R) ≡ same_set p S R
    unfolding mem
    rows_same n k k64 S R qs qr = both _ _
        (λ t. same_of p S R (λ c a hc ha u. ap (λ (m : ℕ). has_bit m a) (sym (equal t c hc)) ∙ u) (λ c a hc ha u. ap (λ (m : ℕ). has_bit m a) (equal t c hc) ∙ u))
        (λ t. rw (set_ext p S R qs qr (same_within p S R t) (same_holds p S R t)) (same_yes n (rows_of R) (rows_of R) (λ c h. refl)))
      where
        equal : same_rows n (rows_of S) (rows_of R) ≡ true → (c : ℕ) → c < n_c p → get_or S c 0 ≡ get_or R c 0
        equal t c h = sym (rows_at S c (wide c h)) ∙ same_at n (rows_of S) (rows_of R) t c (omega arith) ∙ rows_at R c (wide c h)

    -- ---- all matched pairs
    abbrev M : List ℕ
    M = matched_masks p

    M_past : (c : ℕ) → n_c p ≤ c → c < 64 → get_or M c 0 ≡ 0
    M_past c h k = matched_at p c k ∙ row_out p c h

    pub matched_rows : matched_masks p ≡ rows_of (all_matched p)
    unfolding all_matched
    matched_rows =
        fill_done 0 64 M (λ c. get_or M c 0) (matched_length p) (λ c h. refl)
        ∙ rows_is (λ c. get_or M c 0) _ (λ c h. matched_small p w c h) (λ c a hc ha. has_matched_at p w c hc a ha ∙ sym (and_true_r _ refl)) M_past

    -- ---- the pairs that step into the set that rows hold
    abbrev Preds : List ℕ
    Preds = abstract_predecessors p

    partner_row : (rows : List ℕ) (d : ℕ) → d < n_c p → get_or (partner_rows (n_c p) Preds rows) d 0 ≡ partners_of Preds (get_or rows d 0)
    unfolding partner_rows
    partner_row rows d h =
        table_at 64 (λ i. cond (ltb i (n_c p)) (partners_of Preds (get_or rows i 0)) 0) d 0 (wide d h) ∙ rw (lt-ltb d (n_c p) h)

    step_row : (rows : List ℕ) (c : ℕ) → c < n_c p → get_or (steps_of p rows) c 0 ≡ meet_of (get_or p.concrete.successors c 0) (partner_rows (n_c p) Preds rows)
    unfolding step_rows
    step_row rows c h =
        table_at 64 (λ i. cond (ltb i (n_c p)) (meet_of (get_or p.concrete.successors i 0) (partner_rows (n_c p) Preds rows)) 0) c 0 (wide c h) ∙ rw (lt-ltb c (n_c p) h)

    pub has_partner : (rows : List ℕ) (d a : ℕ) → d < n_c p → a < n_a p
        → has_bit (get_or (partner_rows (n_c p) Preds rows) d 0) a ≡ some_in (n_a p) (successors p.abstraction a) (mem p (pairs_in p rows) d)
    unfolding moves successors
    has_partner rows d a hd ha =
        ap (λ (m : ℕ). has_bit m a) (partner_row rows d hd)
        ∙ partners_found (n_a p) p.abstraction.successors (get_or rows d 0) a a ha w.abstraction.states_high (λ b l t. w.abstraction.move_bits a b ha l t)
        ∙ single_found a alike (get_or p.abstraction.successors a 0) (has_bit (get_or rows d 0))
        ∙ some_in_fit 64 (n_a p) (get_or p.abstraction.successors a 0) (has_bit (get_or rows d 0)) (mem p (pairs_in p rows) d)
        w.abstraction.states_high (λ i l e. w.abstraction.move_bits a i ha l e) (λ b l. sym (mem_in rows d b hd))

    -- the meet of partner rows over the moves of c
    pub has_meet : (rows : List ℕ) (c a : ℕ) → c < n_c p → a < n_a p
        → has_bit (meet_of (get_or p.concrete.successors c 0) (partner_rows (n_c p) Preds rows)) a ≡ steps p (mem p (pairs_in p rows)) c a
    unfolding meet_of steps moves successors
    has_meet rows c a hc ha =
        has_mask_of_at 64 _ a (omega (arith, w.abstraction.states_high))
        ∙ every_in_fit 64 (n_c p) (get_or p.concrete.successors c 0) _ _
        w.concrete.states_high (λ i l e. w.concrete.move_bits c i hc l e) (λ d l. has_partner rows d a l ha)

    pub has_step : (rows : List ℕ) (c a : ℕ) → c < n_c p → a < n_a p → has_bit (get_or (steps_of p rows) c 0) a ≡ steps p (mem p (pairs_in p rows)) c a
    has_step rows c a hc ha = ap (λ (m : ℕ). has_bit m a) (step_row rows c hc) ∙ has_meet rows c a hc ha

    -- ---- rows that are met with the matched pairs
    met_is : (h : ℕ → ℕ) (f : ℕ → ℕ → Bool) → ((c a : ℕ) → c < n_c p → a < n_a p → has_bit (h c) a ≡ f c a)
        → table 64 (λ c. bit_and (get_or M c 0) (h c)) ≡ rows_of (pair_set p f)
    met_is h f bits = rows_is (λ c. bit_and (get_or M c 0) (h c)) f
        (λ c l. omega (arith, and_le_l (get_or M c 0) (h c), matched_small p w c l))
        (λ c a hc ha. has_and a (get_or M c 0) (h c) ∙ ap₂ and (has_matched_at p w c hc a ha) (bits c a hc ha))
        (λ c l k. omega (arith, and_le_l (get_or M c 0) (h c), M_past c l k))

    -- the matched pairs of any rows
    pub held_is : (rows : List ℕ) → join_rows M rows rows ≡ rows_of (pair_set p (mem p rows))
    unfolding join_rows mem
    held_is rows = met_is _ _ (λ c a hc ha. has_or a (get_or rows c 0) (get_or rows c 0) ∙ both _ _ (λ t. ⊎_elim (λ u. u) (λ u. u) (or_e t)) (λ t. or_l _ t))

    pub goals_is : (Z : List (List ℕ)) (j : ℕ) (rows : List ℕ) → pairs_in p rows ≡ get_or Z (next (sets_a p) j) []
        → goal_rows M (fair_set p.abstraction j) (steps_of p rows) ≡ rows_of (goals p Z j)
    unfolding goal_rows goals in_fair_set
    goals_is Z j rows e = met_is _ _ (λ c a hc ha.
        has_and a (fair_set p.abstraction j) (get_or (steps_of p rows) c 0)
        ∙ ap (and (has_bit (fair_set p.abstraction j) a)) (has_step rows c a hc ha ∙ ap (λ (S : List ℕ). steps p (mem p S) c a) e))

    -- ---- what is in X whatever X is: goals, and pairs that step into the level below, each held by rows
    pub base_is : (goals below : List ℕ) → join_rows M goals (steps_of p below)
        ≡ rows_of (pair_set p (λ c a. or (mem p (pairs_in p goals) c a) (steps p (mem p (pairs_in p below)) c a)))
    unfolding join_rows
    base_is goals below = met_is _ _ (λ c a hc ha.
        has_or a (get_or goals c 0) (get_or (steps_of p below) c 0) ∙ ap₂ or (sym (mem_in goals c a hc)) (has_step below c a hc ha))

    -- ---- unions
    pub join_is : (f g : ℕ → ℕ → Bool) → join_rows M (rows_of (pair_set p f)) (rows_of (pair_set p g)) ≡ rows_of (pair_set p (λ c a. or (f c a) (g c a)))
    unfolding join_rows
    join_is f g =
        met_is _ (λ c a. or (and (matched p c a) (f c a)) (and (matched p c a) (g c a))) (λ c a hc ha.
        has_or a (get_or (rows_of (pair_set p f)) c 0) (get_or (rows_of (pair_set p g)) c 0) ∙ ap₂ or (row_bit f c a hc ha) (row_bit g c a hc ha))
        ∙ ap rows_of (pair_set_cong p _ _ (λ c a hc ha m. ap₂ or (and_true_l (f c a) m) (and_true_l (g c a) m)))

    pub no_rows : (f : ℕ → ℕ → Bool) → ((c a : ℕ) → c < n_c p → a < n_a p → f c a ≡ false) → replicate 64 0 ≡ rows_of (pair_set p f)
    no_rows f e =
        fill_done 0 64 (replicate 64 0) (λ c. 0) refl (λ c h. zeros_at 64 c)
        ∙ rows_is (λ c. 0) f (λ c h. pow_pos (n_a p)) (λ c a hc ha. has_none a ∙ sym (and_false_r _ (e c a hc ha))) (λ c h l. refl)
