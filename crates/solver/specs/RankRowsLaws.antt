-- Laws of the loops that rank a section: set by set of the tower, level by level, until a level is the one before. The pairs that a set is the
-- first to have get their rank; every other entry stays at or below its pair's rank, so that the pairs up to a bound hold each set they start.
use Rattle.std.specs.Prelude.{Bool, ◌⊎◌, ◌≡◌, refl, ltb, length, get_or}
use Rattle.std.proofs.Math.Bool.{true, false, cond}
use mathlib.Core.List.{List, []}
use Rattle.std.proofs.Common.{inl, inr, sym, ◌∙◌, mul-le-mul_right, mod-lt, div-lt_iff_lt-mul, mul_comm}
use Rattle.std.proofs.Math.Logic.{⊎_elim, by_cases}
use Rattle.std.proofs.Math.Path.{ap, ap₂}
use Prim.Native.Nat.{ℕ, zero, suc, ◌+◌, ◌-◌, ◌*◌, ◌/◌, ◌%◌, ◌≤◌, ◌<◌}
use Rattle.std.proofs.Math.Decide.{dec_le, ℕ_discrete}
use Rattle.std.proofs.Math.Nat.{div-add-mod'}
use native.Mathlib.Omega.{arith}
use Rattle.std.proofs.Math.Arith.{digits_lt, digits_div, digits_mod}
use Rattle.std.proofs.Math.Dec.{leb}
use borrow.Author.Tests.{lt-ltb, le-ltb, le-leb, leb-true}
use Rattle.mask.specs.Logic.{not, and, or}
use Rattle.mask.specs.LogicLaws.{dec, clash, refute, both, and_i, and_l, and_r, and_false_l, and_false_r, or_l, or_r, or_e, not_i, not_e, not_f}
use Rattle.mask.specs.Bits.{has_bit}
use Rattle.mask.specs.Bounded.{some}
use Rattle.mask.specs.BoundedLaws.{some_at, some_of}
use Rattle.mask.specs.Tables.{mask_of}
use Rattle.mask.specs.TablesLaws.{table_length, table_at, table_past, mask_of_lt, has_mask_of_at}
use Rattle.machine.specs.declared.Pair.{Pair}
use Rattle.machine.specs.Machines.{matched, n_c, n_a, sets_c, pairs}
use Rattle.machine.specs.Observed.{matched_masks}
use Rattle.machine.specs.WellFormedLaws.{WellPair, ranks_small}
use Rattle.machine.specs.Game.{mem, none, x_over, level, x_set, levels}
use Rattle.machine.specs.Ranks.{tower}
use Rattle.machine.specs.Table.{blank}
use Rattle.theory.specs.Statements.{Within}
use Rattle.theory.specs.GameLaws.{Canonical, of_set, in_set, set_canonical, set_ext, pair_set_cong, none_empty, goal, x_over_mono, level_over_mono, Within_refl, level_zero, level_suc, level_later, level_levels, levels_level, level_canonical, levels_is}
use Rattle.theory.specs.TowerLaws.{x_is, level_x, x_level, tower_at}
use Rattle.theory.specs.RankLaws.{Ranked, is_goal, is_placed, is_outside, ranked, goal_zero, rank_le, rank_bounded, level_rank, covered_levels}
use Rattle.rows.specs.Rows.{rows_of, join_rows}
use Rattle.rows.specs.SetRowsLaws.{rows_at, join_is}
use Rattle.rows.specs.Entries.{upto_rows, without, write_rows}
use Rattle.solver.specs.Ranking.{rank_over, seen_upto, entry_of, Bounded, RankedTo, AreRanks}
use Rattle.rows.specs.WriteLaws.{has_without}
use Rattle.solver.specs.XLaws.{HoldsMatched}

swap : (a b c : Bool) → or a (or b c) ≡ or b (or a c)
unfolding or
swap true true c = refl
swap true false c = refl
swap false b c = refl

module _ (p : Pair) (w : WellPair p) where
  some_sets : 0 < sets_c p
  some_sets = w.concrete.sets_low

  -- places of the tower are small numbers
  pub places_small : pairs p * sets_c p < blank
  places_small = omega (arith, mul_comm (pairs p) (sets_c p), ranks_small p w)

  -- ---- entries, by state
  index_lt : (c a : ℕ) → c < n_c p → a < n_a p → c * n_a p + a < pairs p
  index_lt c a hc ha = digits_lt hc ha

  pub written_at : (X S part : List ℕ) (v c a : ℕ) → length part ≡ pairs p → c < n_c p → a < n_a p
      → entry_of p (write_rows (n_a p) (rows_of X) (rows_of S) v part) c a ≡ cond (and (mem p X c a) (not (mem p S c a))) v (entry_of p part c a)
  unfolding write_rows mem
  written_at X S part v c a long hc ha =
      table_at (length part) (λ e. cond (has_bit (without (get_or (rows_of X) (e / n_a p) 0) (get_or (rows_of S) (e / n_a p) 0)) (e % n_a p)) v (get_or part e 0))
      (c * n_a p + a) 0 (omega (arith, index_lt c a hc ha))
      ∙ rw (digits_div c ha, digits_mod c ha, rows_at X c wide, rows_at S c wide, has_without a (get_or X c 0) (get_or S c 0))
    where
      wide : c < 64
      wide = omega (arith, w.concrete.states_high)

  pub written_long : (x y part : List ℕ) (v : ℕ) → length (write_rows (n_a p) x y v part) ≡ length part
  unfolding write_rows
  written_long x y part v = table_length _ _

  -- the pairs up to a bound
  upto_at : (part : List ℕ) (bound c : ℕ) → c < n_c p → get_or (upto_rows (n_c p) (n_a p) part bound) c 0 ≡ mask_of (n_a p) (λ a. leb (entry_of p part c a) bound)
  unfolding upto_rows
  upto_at part bound c hc =
      table_at 64 (λ d. cond (ltb d (n_c p)) (mask_of (n_a p) (λ a. leb (get_or part (d * n_a p + a) 0) bound)) 0) c 0 (omega (arith, w.concrete.states_high))
      ∙ rw (lt-ltb c (n_c p) hc)

  pub upto_bit : (part : List ℕ) (bound c a : ℕ) → c < n_c p → a < n_a p → has_bit (get_or (upto_rows (n_c p) (n_a p) part bound) c 0) a ≡ leb (entry_of p part c a) bound
  upto_bit part bound c a hc ha = ap (λ (m : ℕ). has_bit m a) (upto_at part bound c hc) ∙ has_mask_of_at (n_a p) _ a ha

  upto_past : (part : List ℕ) (bound c : ℕ) → n_c p ≤ c → get_or (upto_rows (n_c p) (n_a p) part bound) c 0 ≡ 0
  unfolding upto_rows
  upto_past part bound c h = by_cases (dec_le c 63)
      (λ l. table_at 64 (λ d. cond (ltb d (n_c p)) (mask_of (n_a p) (λ a. leb (get_or part (d * n_a p + a) 0) bound)) 0) c 0 (omega arith) ∙ rw (le-ltb c (n_c p) h))
      (λ l. table_past 64 (λ d. cond (ltb d (n_c p)) (mask_of (n_a p) (λ a. leb (get_or part (d * n_a p + a) 0) bound)) 0) c 0 (omega arith))

  pub upto_holds : {goals part : List ℕ} (bound : ℕ) → bound < blank → Bounded p goals part → HoldsMatched p (upto_rows (n_c p) (n_a p) part bound)
  unfolding upto_rows
  upto_holds {goals} {part} bound h b = record {
    long = table_length 64 _;
    small = λ c hc. rw (upto_at part bound c hc) (mask_of_lt (n_a p) _);
    past = upto_past part bound;
    in_matched = λ c a hc ha t. ⊎_elim (λ m. m)
        (λ m. absurd (omega (arith, b.unmatched c a hc ha m, leb-true (entry_of p part c a) bound (sym (upto_bit part bound c a hc ha) ∙ t)))) (dec (matched p c a));
  }

  module _ (G : List ℕ) (q : Canonical p G) where
    -- set number i of the tower has the pair
    abbrev Has : ℕ → ℕ → ℕ → Bool
    Has c a i = mem p (get_or (tower p G) i []) c a

    -- ---- the sets of the tower, by l and k
    at_place : (i : ℕ) → i < pairs p * sets_c p → get_or (tower p G) i [] ≡ x_set p G (suc (i / sets_c p)) (i % sets_c p)
    at_place i h =
        ap (λ (n : ℕ). get_or (tower p G) n []) (sym (div-add-mod' i (sets_c p)))
        ∙ tower_at p G (i / sets_c p) (i % sets_c p) ((div-lt_iff_lt-mul some_sets).1 h) (mod-lt i some_sets)

    has_place : (i c a : ℕ) → i < pairs p * sets_c p → Has c a i ≡ true → mem p (x_set p G (suc (i / sets_c p)) (i % sets_c p)) c a ≡ true
    has_place i c a h t = ap (λ (S : List ℕ). mem p S c a) (sym (at_place i h)) ∙ t

    -- a pair of the sets before level l + 1 is in level l, and the other way round
    some_level : (l c a : ℕ) → l ≤ pairs p → c < n_c p → a < n_a p → some (l * sets_c p) (Has c a) ≡ true → mem p (level p G l) c a ≡ true
    some_level l c a hl hc ha t =
        let r = some_at (l * sets_c p) (Has c a) t in
        let e : ℕ = r.0 in
        let few : e / sets_c p < l = (div-lt_iff_lt-mul some_sets).1 r.1 in
        let room : l * sets_c p ≤ pairs p * sets_c p = mul-le-mul_right (sets_c p) hl in
        level_later p G (suc (e / sets_c p)) l few c a hc ha
        (x_level p G (e / sets_c p) (e % sets_c p) c a (mod-lt e some_sets) hc ha (has_place e c a (omega (arith, r.1)) r.2))

    level_some : (l c a : ℕ) → l ≤ pairs p → c < n_c p → a < n_a p → mem p (level p G l) c a ≡ true → some (l * sets_c p) (Has c a) ≡ true
    level_some zero c a hl hc ha t = absurd (none_empty p c a hc ha (rw (level_zero p G) at t))
    level_some (suc l) c a hl hc ha t =
        let r = level_x p G l c a hc ha t in
        some_of (suc l * sets_c p) (Has c a) (l * sets_c p + r.0) (omega (arith, r.1))
        (ap (λ (S : List ℕ). mem p S c a) (tower_at p G l r.0 (omega arith) r.1) ∙ r.2)

    -- ---- the pairs that have a rank
    pub seen_start : (l : ℕ) → l ≤ pairs p → join_rows (matched_masks p) (rows_of G) (rows_of (level p G l)) ≡ rows_of (seen_upto p G (l * sets_c p))
    unfolding seen_upto
    seen_start l hl =
        ap₂ (λ (S R : List ℕ). join_rows (matched_masks p) (rows_of S) (rows_of R)) q (level_canonical p G l)
        ∙ join_is p w (mem p G) (mem p (level p G l))
        ∙ ap rows_of (pair_set_cong p _ _ (λ c a hc ha m. ap (or (mem p G c a)) (both _ _ (level_some l c a hl hc ha) (some_level l c a hl hc ha))))

    pub seen_more : (i : ℕ) (X : List ℕ) → Canonical p X → get_or (tower p G) i [] ≡ X → join_rows (matched_masks p) (rows_of X) (rows_of (seen_upto p G i)) ≡ rows_of (seen_upto p G (suc i))
    unfolding seen_upto some
    seen_more i X k e =
        ap (λ (S : List ℕ). join_rows (matched_masks p) (rows_of S) (rows_of (seen_upto p G i))) k
        ∙ join_is p w (mem p X) (λ c a. or (mem p G c a) (some i (Has c a)))
        ∙ ap rows_of (pair_set_cong p _ _ (λ c a hc ha m. swap (mem p X c a) (mem p G c a) (some i (Has c a)) ∙ ap (λ (S : List ℕ). or (mem p G c a) (or (mem p S c a) (some i (Has c a)))) (sym e)))

    -- after level l + 1 these are its pairs
    pub seen_level : (l : ℕ) → l < pairs p → seen_upto p G (suc l * sets_c p) ≡ level p G (suc l)
    unfolding seen_upto
    seen_level l hl = set_ext p _ _ (set_canonical p _) (level_canonical p G (suc l))
        (λ c a hc ha t.
        let r = of_set p _ c a hc ha t in
        ⊎_elim (λ u. x_level p G l 0 c a some_sets hc ha ((x_is p G l 0).of c a hc ha r.0 (goal u))) (λ u. some_level (suc l) c a hl hc ha u) (or_e r.1))
        (λ c a hc ha t.
        let r = level_x p G l c a hc ha t in
        in_set p _ c a hc ha ((x_is p G l r.0).at c a hc ha r.2).0 (or_r _ (level_some (suc l) c a hl hc ha t)))

    -- ---- these are the pairs of rank at most i
    module _ (c a : ℕ) (hc : c < n_c p) (ha : a < n_a p) where
      pub how_ranked : Ranked p G c a (rank_over p G c a)
      unfolding rank_over
      how_ranked = ranked p G c a

      goal_matched : mem p G c a ≡ true → matched p c a ≡ true
      goal_matched t = (of_set p (mem p G) c a hc ha (ap (λ (S : List ℕ). mem p S c a) (sym q) ∙ t)).0

      pub seen_rank : (i : ℕ) → i ≤ pairs p * sets_c p → mem p (seen_upto p G i) c a ≡ true → rank_over p G c a ≤ i
      unfolding seen_upto
      seen_rank i h t = ⊎_elim
          (λ u. omega (arith, (goal_zero p how_ranked).1 u))
          (λ u.
          let r = some_at i (Has c a) u in
          let e : ℕ = r.0 in
          omega (
            arith,
            r.1,
            div-add-mod' e (sets_c p),
            rank_le p how_ranked (e / sets_c p) (e % sets_c p)
                ((div-lt_iff_lt-mul some_sets).1 (omega (arith, r.1))) (mod-lt e some_sets) (has_place e c a (omega (arith, r.1)) r.2),
          ))
          (or_e (of_set p _ c a hc ha t).1)

      pub rank_seen : (i : ℕ) → i ≤ pairs p * sets_c p → rank_over p G c a ≤ i → mem p (seen_upto p G i) c a ≡ true
      unfolding seen_upto
      rank_seen i h r = go how_ranked
        where
          go : Ranked p G c a (rank_over p G c a) → mem p (seen_upto p G i) c a ≡ true
          go (is_goal t e) = in_set p _ c a hc ha (goal_matched t) (or_l _ t)
          go (is_placed l k t z) =
              let s : l ≡ suc (l - 1) = omega (arith, z.l_low) in
              let u : mem p (x_set p G (suc (l - 1)) k) c a ≡ true = rw s at z.is_in in
              let few : l - 1 < pairs p = omega (arith, z.l_low, z.l_high) in
              in_set p _ c a hc ha ((x_is p G (l - 1) k).at c a hc ha u).0 (or_r _
              (some_of i (Has c a) ((l - 1) * sets_c p + k) (omega (arith, z.is_r))
              (ap (λ (S : List ℕ). mem p S c a) (tower_at p G (l - 1) k few z.k_high) ∙ u)))
          go (is_outside t o e) = absurd (omega (arith, places_small))

      -- no pair outside the levels has a rank, and every pair of them has one
      pub outside_blank : mem p (levels p G) c a ≡ false → rank_over p G c a ≡ blank
      outside_blank t = by_cases (ℕ_discrete (rank_over p G c a) blank) (λ e. e)
          (λ n. absurd (clash t (covered_levels p w hc ha goal_matched how_ranked n)))

      pub rank_top : rank_over p G c a ≤ blank
      rank_top = ⊎_elim (λ e. omega arith) (λ e. omega (arith, ranks_small p w)) (rank_bounded p how_ranked)

      pub levels_ranked : mem p (levels p G) c a ≡ true → rank_over p G c a ≤ pairs p * sets_c p
      levels_ranked t = level_rank p hc ha how_ranked (pairs p) (omega arith) (levels_level p G c a hc ha t)

    -- ---- one set more
    module _ {first part : List ℕ} {i : ℕ} (hi : i < pairs p * sets_c p) (d : RankedTo p G first i part)
        (X : List ℕ) (e : get_or (tower p G) i [] ≡ X) (m : (c a : ℕ) → c < n_c p → a < n_a p → mem p X c a ≡ true → matched p c a ≡ true) where
      abbrev Part : List ℕ
      Part = write_rows (n_a p) (rows_of X) (rows_of (seen_upto p G i)) (suc i) part

      abbrev New : ℕ → ℕ → Bool
      New c a = and (mem p X c a) (not (mem p (seen_upto p G i) c a))

      at : (c a : ℕ) → c < n_c p → a < n_a p → entry_of p Part c a ≡ cond (New c a) (suc i) (entry_of p part c a)
      at c a hc ha = written_at X (seen_upto p G i) part (suc i) c a d.bounded.long hc ha

      new : (c a : ℕ) → c < n_c p → a < n_a p → New c a ≡ true → (entry_of p Part c a ≡ suc i) × (rank_over p G c a ≡ suc i)
      unfolding seen_upto
      new c a hc ha t = (
        at c a hc ha ∙ rw t,
        by_cases (dec_le (rank_over p G c a) i)
            (λ l. absurd (clash (not_e _ (and_r _ _ t)) (rank_seen c a hc ha i (omega arith) l)))
            (λ l. omega (arith, seen_rank c a hc ha (suc i) hi now)),
      )
        where
          now : mem p (seen_upto p G (suc i)) c a ≡ true
          now = in_set p _ c a hc ha (m c a hc ha (and_l _ _ t)) (or_r _ (some_of (suc i) (Has c a) i (omega arith) (ap (λ (S : List ℕ). mem p S c a) e ∙ and_l _ _ t)))

      old : (c a : ℕ) → c < n_c p → a < n_a p → New c a ≡ false → entry_of p Part c a ≡ entry_of p part c a
      old c a hc ha t = at c a hc ha ∙ rw t

      -- a pair of rank i + 1 is new
      rank_new : (c a : ℕ) → c < n_c p → a < n_a p → New c a ≡ false → rank_over p G c a ≤ suc i → rank_over p G c a ≤ i
      unfolding seen_upto some
      rank_new c a hc ha t l = by_cases (dec_le (rank_over p G c a) i) (λ k. k) (λ k. absurd (clash t (and_i (in_X k) (not_i (unseen k)))))
        where
          unseen : ¬ (rank_over p G c a ≤ i) → mem p (seen_upto p G i) c a ≡ false
          unseen k = refute _ (λ u. k (seen_rank c a hc ha i (omega arith) u))

          in_X : ¬ (rank_over p G c a ≤ i) → mem p X c a ≡ true
          in_X k =
              let s = of_set p _ c a hc ha (rank_seen c a hc ha (suc i) hi l) in
              ⊎_elim
              (λ u. absurd (clash (unseen k) (in_set p _ c a hc ha s.0 (or_l _ u))))
              (λ u. ⊎_elim
              (λ v. ap (λ (S : List ℕ). mem p S c a) (sym e) ∙ v)
              (λ v. absurd (clash (unseen k) (in_set p _ c a hc ha s.0 (or_r _ v)))) (or_e u))
              (or_e s.1)

      pub ranked_more : RankedTo p G first (suc i) Part
      ranked_more = record {
        bounded = record {
          long = written_long _ _ part (suc i) ∙ d.bounded.long;
          low = λ c a hc ha. cases c a hc ha (λ r. r ≤ rank_over p G c a) (λ n. omega (arith, n)) (d.bounded.low c a hc ha);
          unmatched = λ c a hc ha u. old c a hc ha (and_false_l _ (refute _ (λ v. clash u (m c a hc ha v)))) ∙ d.bounded.unmatched c a hc ha u;
        };
        final = λ c a hc ha l. ⊎_elim
            (λ t. let n = new c a hc ha t in n.0 ∙ sym n.1)
            (λ t. old c a hc ha t ∙ d.final c a hc ha (rank_new c a hc ha t l)) (dec (New c a));
        blank_kept = λ c a hc ha b. ⊎_elim
            (λ t. absurd (omega (arith, (new c a hc ha t).1, d.bounded.low c a hc ha, d.blank_kept c a hc ha b, places_small)))
            (λ t. old c a hc ha t ∙ d.blank_kept c a hc ha b) (dec (New c a));
        blank_old = λ c a hc ha b. ⊎_elim
            (λ t. absurd (omega (arith, (new c a hc ha t).0, places_small)))
            (λ t. d.blank_old c a hc ha (sym (old c a hc ha t) ∙ b)) (dec (New c a));
      }
        where
          cases : (c a : ℕ) → c < n_c p → a < n_a p → (P : ℕ → Type 0) → (rank_over p G c a ≡ suc i → P (suc i)) → P (entry_of p part c a) → P (entry_of p Part c a)
          cases c a hc ha P f g = ⊎_elim
              (λ t. let n = new c a hc ha t in rw n.0 (f n.1))
              (λ t. rw (old c a hc ha t) g) (dec (New c a))

    -- ---- entries that bound the ranks are ranked up to 0
    pub ranked_none : {part : List ℕ} → Bounded p G part → RankedTo p G part 0 part
    ranked_none b = record {
      bounded = b;
      final = λ c a hc ha l. omega (arith, b.low c a hc ha);
      blank_kept = λ c a hc ha e. e;
      blank_old = λ c a hc ha e. e;
    }

    -- each set of level l + 1 lies within the pairs whose entry is at most (l + 1) × m
    pub start_holds : {first part : List ℕ} {i : ℕ} (l k : ℕ) → l < pairs p → k < sets_c p → RankedTo p G first i part
        → (c a : ℕ) → c < n_c p → a < n_a p → mem p (x_over p G (level p G l) k) c a ≡ true
        → has_bit (get_or (upto_rows (n_c p) (n_a p) part (l * sets_c p + sets_c p)) c 0) a ≡ true
    unfolding x_set
    start_holds {first} {part} l k hl hk d c a hc ha t =
        upto_bit part (l * sets_c p + sets_c p) c a hc ha
        ∙ le-leb (entry_of p part c a) (l * sets_c p + sets_c p) (omega (arith, d.bounded.low c a hc ha, rank_le p (how_ranked c a hc ha) l k hl hk t))

    -- ---- where a level is the one before, all ranks are there
    pub ranked_all : {first part : List ℕ} {i : ℕ} (l : ℕ) → l < pairs p → suc l * sets_c p ≡ i → Within p (level p G (suc l)) (level p G l)
        → RankedTo p G first i part → RankedTo p G first (pairs p * sets_c p) part
    unfolding seen_upto
    ranked_all {first} {part} {i} l hl ei h d = record {
      bounded = d.bounded;
      final = λ c a hc ha r. d.final c a hc ha (by_cases (dec_le (rank_over p G c a) (suc l * sets_c p)) (λ k. omega arith)
          (λ k. absurd (k (level_rank p hc ha (how_ranked c a hc ha) (suc l) hl (last c a hc ha r)))));
      blank_kept = d.blank_kept;
      blank_old = d.blank_old;
    }
      where
        all : Within p (levels p G) (level p G l)
        all = (levels_is p G).least (level p G l) (rw (level_suc p G l) at h)

        last : (c a : ℕ) → c < n_c p → a < n_a p → rank_over p G c a ≤ pairs p * sets_c p → mem p (level p G (suc l)) c a ≡ true
        last c a hc ha r = level_later p G l (suc l) (omega arith) c a hc ha (all c a hc ha (among (or_e (of_set p _ c a hc ha (rank_seen c a hc ha (pairs p * sets_c p) (omega arith) r)).1)))
          where
            among : (mem p G c a ≡ true) ⊎ (some (pairs p * sets_c p) (Has c a) ≡ true) → mem p (levels p G) c a ≡ true
            among (inl t) = level_levels p G (suc l) c a hc ha (x_level p G l 0 c a some_sets hc ha ((x_is p G l 0).of c a hc ha (goal_matched c a hc ha t) (goal t)))
            among (inr t) = level_levels p G (pairs p) c a hc ha (some_level (pairs p) c a (omega arith) hc ha t)

    -- ---- what is outside the levels is made blank
    module _ {first part : List ℕ} (b : Bounded p G first) (d : RankedTo p G first (pairs p * sets_c p) part) (C : List ℕ)
        (covers : (c a : ℕ) → c < n_c p → a < n_a p → mem p C c a ≡ leb (entry_of p first c a) (blank - 1)) where
      pub ranked_done : AreRanks p G (write_rows (n_a p) (rows_of C) (rows_of (levels p G)) blank part)
      ranked_done = record { long = written_long _ _ part blank ∙ d.bounded.long; ranks = λ c a hc ha. written_at C (levels p G) part blank c a d.bounded.long hc ha ∙ value c a hc ha }
        where
          value : (c a : ℕ) → c < n_c p → a < n_a p → cond (and (mem p C c a) (not (mem p (levels p G) c a))) blank (entry_of p part c a) ≡ rank_over p G c a
          value c a hc ha = ⊎_elim kept (λ t. ⊎_elim (made t) (left t) (dec (mem p C c a))) (dec (mem p (levels p G) c a))
            where
              kept : mem p (levels p G) c a ≡ true → cond (and (mem p C c a) (not (mem p (levels p G) c a))) blank (entry_of p part c a) ≡ rank_over p G c a
              kept t = rw (and_false_r (mem p C c a) (not_f t)) (d.final c a hc ha (levels_ranked c a hc ha t))

              made : mem p (levels p G) c a ≡ false → mem p C c a ≡ true → cond (and (mem p C c a) (not (mem p (levels p G) c a))) blank (entry_of p part c a) ≡ rank_over p G c a
              made t u = rw (and_i u (not_i t)) (sym (outside_blank c a hc ha t))

              was_blank : mem p C c a ≡ false → entry_of p first c a ≡ blank
              was_blank u = by_cases (dec_le (entry_of p first c a) (blank - 1))
                  (λ l. absurd (clash u (covers c a hc ha ∙ le-leb _ _ l)))
                  (λ l. omega (arith, b.low c a hc ha, rank_top c a hc ha))

              left : mem p (levels p G) c a ≡ false → mem p C c a ≡ false → cond (and (mem p C c a) (not (mem p (levels p G) c a))) blank (entry_of p part c a) ≡ rank_over p G c a
              left t u = rw (and_false_l (not (mem p (levels p G) c a)) u) (d.blank_kept c a hc ha (was_blank u) ∙ sym (outside_blank c a hc ha t))

    -- the levels lie among the pairs that are not blank
    pub levels_covered : {part : List ℕ} → Bounded p G part → (c a : ℕ) → c < n_c p → a < n_a p → mem p (levels p G) c a ≡ true
        → leb (entry_of p part c a) (blank - 1) ≡ true
    levels_covered {part} b c a hc ha t = le-leb (entry_of p part c a) (blank - 1) (omega (arith, b.low c a hc ha, levels_ranked c a hc ha t, places_small))

  -- ---- fewer goals, higher ranks
  fewer_goals : (G F : List ℕ) → Within p G F → (l k : ℕ) → Within p (x_set p G (suc l) k) (x_set p F (suc l) k)
  unfolding x_set
  fewer_goals G F h l k = x_over_mono p G F (level p G l) (level p F l) k h (fewer_levels l)
    where
      fewer_levels : (n : ℕ) → Within p (level p G n) (level p F n)
      fewer_levels zero = rw (level_zero p G, level_zero p F) (Within_refl p (none p))
      fewer_levels (suc n) = rw (level_suc p G n, level_suc p F n) (level_over_mono p G F (level p G n) (level p F n) h (fewer_levels n))

  pub ranks_rise : (G F : List ℕ) → Canonical p G → Canonical p F → Within p G F → (c a : ℕ) → c < n_c p → a < n_a p → rank_over p F c a ≤ rank_over p G c a
  ranks_rise G F qg qf h c a hc ha = go (how_ranked G qg c a hc ha)
    where
      go : Ranked p G c a (rank_over p G c a) → rank_over p F c a ≤ rank_over p G c a
      go (is_goal t e) = omega (arith, (goal_zero p (how_ranked F qf c a hc ha)).1 (h c a hc ha t))
      go (is_placed l k t z) =
          let s : l ≡ suc (l - 1) = omega (arith, z.l_low) in
          omega (
            arith,
            z.is_r,
            rank_le p (how_ranked F qf c a hc ha) (l - 1) k (omega (arith, z.l_low, z.l_high)) z.k_high
                (fewer_goals G F h (l - 1) k c a hc ha (rw s at z.is_in)),
          )
      go (is_outside t o e) = rw e (rank_top F qf c a hc ha)
