-- Laws of the sweeps. A section that is made anew has its ranks over the present goals. Its set only shrinks, so that the goals of the section
-- before it shrink and the ranks over them rise; all other goals stay. With no section due, what the table covers is the largest family.
use Rattle.std.specs.Prelude.{Bool, ◌⊎◌, ◌≡◌, eqb, take, replicate}
use Rattle.std.proofs.Math.Bool.{true, false, cond}
use mathlib.Core.List.{List, [], ◌++◌}
use Rattle.std.proofs.Math.Logic.{inl, inr, ⊎_elim, by_cases}
use Rattle.std.proofs.Math.Path.{refl, sym, ap}
use Rattle.std.proofs.Common.{ap₂, ◌∙◌, div-lt_iff_lt-mul, lt-ltb, eq-eqb, eqb-true}
use Prim.Native.Nat.{ℕ, suc, ◌+◌, ◌-◌, ◌*◌, ◌/◌, ◌%◌, ◌^◌, ◌≤◌, ◌<◌}
use Rattle.std.proofs.Math.Decide.{dec_lt, ℕ_discrete}
use Rattle.std.proofs.Math.Nat.{mod-lt, div-add-mod', mul_assoc, add-mul, mul-le-mul_right}
use native.Mathlib.Omega.{arith}
use Rattle.std.proofs.Math.Arith.{digits_lt, digits_div, digits_mod}
use Rattle.std.proofs.lemmas.Nat.{or_lt}
use Rattle.std.proofs.Math.Pow.{pow-lt}
use Rattle.std.proofs.Math.Dec.{leb}
use Rattle.std.proofs.Math.ListN.{length, get_or, drop, length-append, length-drop, get_or-append}
use Rattle.std.proofs.Math.Seq.{ext_get_or, get_or-take, get_or-drop, get_or-append-add}
use Rattle.std.proofs.lemmas.Bool.{lt-leb}
use Rattle.mask.specs.Logic.{not, and, or}
use Rattle.mask.specs.LogicLaws.{dec, clash, refute, and_l, and_r, and_i, and_true_l, and_true_r, and_false_l, not_i, not_e, not_false, or_e, or_none}
use Rattle.mask.specs.Bits.{has_bit, lowest_of, rest_of, with_bit, full_mask}
use Rattle.mask.specs.BitsLaws.{has_none, has_full, full_lt, has_lt, has_with, lowest_set}
use Rattle.mask.specs.WalkLaws.{rest_has, rest_keeps, rest_small}
use Rattle.mask.specs.Bounded.{sum, count}
use Rattle.mask.specs.BoundedLaws.{sum_eq, count_mono}
use Rattle.mask.specs.Tables.{table}
use Rattle.mask.specs.TablesLaws.{table_length, table_at}
use Rattle.mask.specs.FrontLaws.{zeros_at}
use Rattle.machine.specs.declared.Pair.{Pair}
use Rattle.machine.specs.Machines.{fair_set, matched, next, n_c, n_a, sets_a, pairs}
use Rattle.machine.specs.StepLaws.{next_lt, next_wrap, next_step}
use Rattle.machine.specs.Observed.{matched_masks}
use Rattle.machine.specs.ObservedLaws.{has_matched_at}
use Rattle.machine.specs.WellFormedLaws.{WellPair, some_pairs, section_fits, entries_small}
use Rattle.machine.specs.Game.{pair_set, mem, same_set, none, all_matched, goals, levels, family}
use Rattle.machine.specs.Ranks.{rank_table, solver_table}
use Rattle.machine.specs.Table.{blank, table_room, entry_index, entry, covers, covered_count, entries}
use Rattle.machine.specs.LinesLaws.{covers_at, covers_of, covers_bound}
use Rattle.machine.specs.EntriesLaws.{index_entries}
use Rattle.theory.specs.Statements.{Within}
use Rattle.theory.specs.Fixpoint.{bit_mono, bit_eq}
use Rattle.theory.specs.GameLaws.{Canonical, mem_pair_set, pair_set_cong, set_canonical, set_ext, same_within, same_holds, same_of, Within_refl, of_all_matched, levels_canonical, levels_mono, levels_matched}
use Rattle.theory.specs.FamilyLaws.{WithinF, tabled, goals_mono, family_is, family_tabled, family_ext}
use Rattle.theory.specs.RankLaws.{ranks_at, ranks_entries, table_entries}
use Rattle.rows.specs.Rows.{rows_of, pairs_in, same_rows, goal_rows, step_rows, abstract_predecessors}
use Rattle.rows.specs.SetRowsLaws.{rows_same, set_back, matched_rows, goals_is}
use Rattle.rows.specs.Entries.{upto_rows, without, write_rows}
use Rattle.solver.specs.Ranking.{rank_over, entry_of, Holds, Bounded, AreRanks}
use Rattle.solver.specs.Sweeps.{part_of, covered_family, goals_in, Begun, Renewable, Renewed, Sweeping, FamilyRanked}
use Rattle.rows.specs.LargestLaws.{wider}
use Rattle.rows.specs.WriteLaws.{has_without, patch, patch_length, patch_before, patch_in, patch_after, cut_long}
use Rattle.solver.specs.XLaws.{holds_set, holds_rows}
use Rattle.solver.specs.RankRowsLaws.{upto_bit, upto_holds, rank_top, outside_blank, levels_ranked, places_small, levels_covered, ranks_rise}

with_small : (m s : ℕ) → s < 64 → m < 2 ^ 64 → with_bit m s < 2 ^ 64
unfolding with_bit
with_small m s h l = rw (lt-ltb s 64 h) (or_lt 64 m (2 ^ s) l (pow-lt h))

-- ---- the first entries of a section
pub first_at : (P n_a : ℕ) (matched : List ℕ) {ys : List ℕ} → ys ≡ write_rows n_a matched (replicate 64 0) 0 (table P (λ e. blank))
    → (length ys ≡ P) × ((e : ℕ) → e < P → get_or ys e 0 ≡ cond (has_bit (get_or matched (e / n_a) 0) (e % n_a)) 0 blank)
unfolding write_rows
first_at P n_a matched {ys} ey = (
  ap length ey ∙ table_length _ _ ∙ table_length P _,
  λ e h.
      ap (λ (m : List ℕ). get_or m e 0) ey
      ∙ table_at (length (table P (λ i. blank))) _ e 0 (omega (arith, table_length P (λ i. blank)))
      ∙ ap₂ (λ (b : Bool) (x : ℕ). cond b 0 x) (bit e) (table_at P (λ i. blank) e 0 h),
)
  where
    bit : (e : ℕ) → has_bit (without (get_or matched (e / n_a) 0) (get_or (replicate 64 0) (e / n_a) 0)) (e % n_a) ≡ has_bit (get_or matched (e / n_a) 0) (e % n_a)
    bit e = has_without (e % n_a) _ _ ∙ and_true_r _ (not_i (ap (λ (m : ℕ). has_bit m (e % n_a)) (zeros_at 64 (e / n_a)) ∙ has_none (e % n_a)))

-- ---- and of all sections, one after the other
module _ {P n_a : ℕ} {matched first : List ℕ} where
  pub begun_start : Begun P n_a matched first 0 first
  begun_start = record { long = refl; begun = λ i e h. absurd (omega arith); rest = λ e h. refl }

  pub begun_turn : {l ys : List ℕ} {j a k : ℕ} → j * P + P ≤ length first → a ≡ j * P → k ≡ P
      → ys ≡ write_rows n_a matched (replicate 64 0) 0 (table P (λ e. blank)) → Begun P n_a matched first j l → Begun P n_a matched first (j + 1) (patch l a ys k)
  begun_turn {l} {ys} {j} {a} {k} room ea ek ey d = record {
    long = patch_length l ys a k fits long ∙ d.long;
    begun = λ i e hi he. by_cases (ℕ_discrete i j)
        (λ q. ap (λ (n : ℕ). get_or (patch l a ys k) (n + e) 0) (ap (λ (n : ℕ). n * P) q ∙ sym ea) ∙ patch_in l ys a k fits long e (omega arith) ∙ (first_at P n_a matched ey).1 e he)
        (λ n. patch_before l ys a k fits long (i * P + e) (earlier i e (omega arith) he) ∙ d.begun i e (omega arith) he);
    rest = λ e h. patch_after l ys a k fits long e (omega arith) ∙ d.rest e (omega arith);
  }
    where
      fits : a + k ≤ length l
      fits = omega (arith, d.long)

      long : length ys ≡ k
      long = (first_at P n_a matched ey).0 ∙ sym ek

      earlier : (i e : ℕ) → i < j → e < P → i * P + e < a
      earlier i e h q = let m : suc i * P ≤ j * P = mul-le-mul_right P h in omega arith

module _ (p : Pair) (w : WellPair p) where
  -- ---- a section's entries in the table
  place : (j c a : ℕ) → entry_index (n_c p) (n_a p) j c a ≡ j * pairs p + (c * n_a p + a)
  unfolding entry_index
  place j c a = omega (arith, add-mul (j * n_c p) c (n_a p), mul_assoc j (n_c p) (n_a p))

  pub part_entry : (T : List ℕ) (j c a : ℕ) → c < n_c p → a < n_a p → entry_of p (part_of p T j) c a ≡ entry p T j c a
  unfolding part_of entry
  part_entry T j c a hc ha =
      get_or-take (pairs p) (drop (j * pairs p) T) (c * n_a p + a) 0 (digits_lt hc ha)
      ∙ get_or-drop (j * pairs p) T (c * n_a p + a) 0 ∙ ap (λ (e : ℕ). get_or T e 0) (sym (place j c a))

  pub cut_is : (T : List ℕ) (j a k : ℕ) → a ≡ j * pairs p → k ≡ pairs p → take k (drop a T) ≡ part_of p T j
  unfolding part_of
  cut_is T j a k ea ek = rw (ea, ek)

  pub part_long : (T : List ℕ) (j : ℕ) → table_room ≤ length T → j < sets_a p → length (part_of p T j) ≡ pairs p
  unfolding part_of
  part_long T j room hj = cut_long (pairs p) (j * pairs p) T (omega (arith, section_fits p w j hj))

  -- an entry's number, as section, c and a
  row_of : (e : ℕ) → e < pairs p → e / n_a p < n_c p
  row_of e h = (div-lt_iff_lt-mul w.abstraction.states_low).1 h

  state_of_lem : (e : ℕ) → e % n_a p < n_a p
  state_of_lem e = mod-lt e w.abstraction.states_low

  entry_at_lem : (T : List ℕ) (j e : ℕ) → e < pairs p → entry p T j (e / n_a p) (e % n_a p) ≡ get_or T (j * pairs p + e) 0
  unfolding entry
  entry_at_lem T j e h = ap (λ (n : ℕ). get_or T n 0) (place j (e / n_a p) (e % n_a p) ∙ ap (λ (n : ℕ). j * pairs p + n) (div-add-mod' e (n_a p)))

  -- ---- a section's entries are put into the table
  module _ (T ys : List ℕ) {j a k : ℕ} (room : table_room ≤ length T) (hj : j < sets_a p) (ea : a ≡ j * pairs p) (ek : k ≡ pairs p) (long : length ys ≡ pairs p) where
    patch_fits : a + k ≤ length T
    patch_fits = omega (arith, section_fits p w j hj)

    patched_long : length (patch T a ys k) ≡ length T
    patched_long = patch_length T ys a k patch_fits (long ∙ sym ek)

    patched_others : (e : ℕ) → (e < j * pairs p) ⊎ (j * pairs p + pairs p ≤ e) → get_or (patch T a ys k) e 0 ≡ get_or T e 0
    patched_others e h = ⊎_elim
        (λ l. patch_before T ys a k patch_fits (long ∙ sym ek) e (omega arith)) (λ l. patch_after T ys a k patch_fits (long ∙ sym ek) e (omega arith)) h

    patched_ranks : {G : List ℕ} → AreRanks p G ys → AreRanks p G (part_of p (patch T a ys k) j)
    unfolding entry
    patched_ranks r = record {
      long = part_long (patch T a ys k) j (rw patched_long room) hj;
      ranks = λ c b hc hb.
          part_entry (patch T a ys k) j c b hc hb ∙ ap (λ (n : ℕ). get_or (patch T a ys k) n 0) (place j c b ∙ ap (λ (n : ℕ). n + (c * n_a p + b)) (sym ea))
          ∙ patch_in T ys a k patch_fits (long ∙ sym ek) (c * n_a p + b) (omega (arith, digits_lt hc hb)) ∙ r.ranks c b hc hb;
    }

  -- a section has its ranks where its entries are those of another table's that has them
  same_ranks : (T U : List ℕ) {G : List ℕ} {j : ℕ} → table_room ≤ length U → j < sets_a p → ((e : ℕ) → j * pairs p ≤ e → e < j * pairs p + pairs p → get_or U e 0 ≡ get_or T e 0)
      → AreRanks p G (part_of p T j) → AreRanks p G (part_of p U j)
  unfolding entry
  same_ranks T U {j = j} room hj same r = record {
    long = part_long U j room hj;
    ranks = λ c a hc ha.
        part_entry U j c a hc ha ∙ ap (λ (n : ℕ). get_or U n 0) (place j c a) ∙ same (j * pairs p + (c * n_a p + a)) (omega arith) (omega (arith, digits_lt hc ha))
        ∙ ap (λ (n : ℕ). get_or T n 0) (sym (place j c a)) ∙ sym (part_entry T j c a hc ha) ∙ r.ranks c a hc ha;
  }

  -- ---- the ranks over a family, section after section
  module _ {Z : List (List ℕ)} {first : List ℕ} where
    pub ranked_start : FamilyRanked p Z first 0 first
    ranked_start = record { long = refl; ranks = λ i h. absurd (omega arith); rest = λ e h. refl }

    pub ranked_more : {l ys : List ℕ} {j a k : ℕ} → table_room ≤ length first → j < sets_a p → a ≡ j * pairs p → k ≡ pairs p → AreRanks p (goals p Z j) ys
        → FamilyRanked p Z first j l → FamilyRanked p Z first (j + 1) (patch l a ys k)
    ranked_more {l} {ys} {j} {a} {k} room hj ea ek r d = record {
      long = patched_long l ys room_l hj ea ek r.long ∙ d.long;
      ranks = λ i hi. by_cases (ℕ_discrete i j)
          (λ q. rw q (patched_ranks l ys room_l hj ea ek r.long r))
          (λ n. same_ranks l (patch l a ys k) (rw (patched_long l ys room_l hj ea ek r.long) room_l) (omega arith)
          (λ e lo hi'. patched_others l ys room_l hj ea ek r.long e (inl (before i e (omega arith) hi'))) (d.ranks i (omega arith)));
      rest = λ e h. patched_others l ys room_l hj ea ek r.long e (inr (omega arith)) ∙ d.rest e (omega arith);
    }
      where
        room_l : table_room ≤ length l
        room_l = rw d.long room

        before : (i e : ℕ) → i < j → e < i * pairs p + pairs p → e < j * pairs p
        before i e h q = let m : suc i * pairs p ≤ j * pairs p = mul-le-mul_right (pairs p) h in omega arith

    pub ranked_done : {j : ℕ} {T : List ℕ} → j ≡ sets_a p → table_room ≤ length first → FamilyRanked p Z first j T → T ≡ rank_table p Z ++ drop (length (rank_table p Z)) first
    unfolding rank_over
    ranked_done {j} {T} ej room d =
        let n : ℕ = length (rank_table p Z) in
        let en : n ≡ sets_a p * pairs p = ranks_entries p Z in
        let small : sets_a p * pairs p ≤ table_room = entries_small p w in
        ext_get_or 0 T (rank_table p Z ++ drop n first)
        (d.long ∙ omega (arith, length-append (rank_table p Z) (drop n first), length-drop n first))
        (λ e h. by_cases (dec_lt e n)
        (λ q. value e (omega arith) ∙ sym (get_or-append (rank_table p Z) (drop n first) 0 e q))
        (λ q. let y : e ≡ n + (e - n) = omega arith in
        d.rest e (rw ej (omega arith))
        ∙ ap (λ (i : ℕ). get_or first i 0) y
        ∙ sym (ap (λ (i : ℕ). get_or (rank_table p Z ++ drop n first) i 0) y ∙ get_or-append-add (rank_table p Z) (drop n first) (e - n) 0 ∙ get_or-drop n first (e - n) 0)))
      where
        entry_rank : (s c a : ℕ) → s < sets_a p → c < n_c p → a < n_a p → entry p T s c a ≡ entry p (rank_table p Z) s c a
        entry_rank s c a hs hc ha = sym (part_entry T s c a hc ha) ∙ (d.ranks s (rw ej hs)).ranks c a hc ha ∙ sym (ranks_at p Z s c a hs hc ha)

        value : (e : ℕ) → e < sets_a p * pairs p → get_or T e 0 ≡ get_or (rank_table p Z) e 0
        value e h =
            let s : ℕ = e / pairs p in
            let i : ℕ = e % pairs p in
            let hi : i < pairs p = mod-lt e (some_pairs p w) in
            let y : e ≡ s * pairs p + i = sym (div-add-mod' e (pairs p)) in
            ap (λ (n : ℕ). get_or T n 0) y ∙ sym (entry_at_lem T s i hi)
            ∙ entry_rank s (i / n_a p) (i % n_a p) ((div-lt_iff_lt-mul (some_pairs p w)).1 h) (row_of i hi) (state_of_lem i)
            ∙ entry_at_lem (rank_table p Z) s i hi ∙ ap (λ (n : ℕ). get_or (rank_table p Z) n 0) (sym y)

  -- ---- what a table covers
  pub covered_at : (T : List ℕ) (j : ℕ) → j < sets_a p → get_or (covered_family p T) j [] ≡ pair_set p (covers p T j)
  unfolding covered_family
  covered_at T j h = table_at (sets_a p) (λ i. pair_set p (covers p T i)) j [] h

  covered_canonical : (T : List ℕ) (j : ℕ) → j < sets_a p → Canonical p (get_or (covered_family p T) j [])
  covered_canonical T j h = rw (covered_at T j h) (set_canonical p (covers p T j))

  covered_mem : (T : List ℕ) (j c a : ℕ) → j < sets_a p → c < n_c p → a < n_a p → mem p (get_or (covered_family p T) j []) c a ≡ and (matched p c a) (covers p T j c a)
  covered_mem T j c a hj hc ha = ap (λ (S : List ℕ). mem p S c a) (covered_at T j hj) ∙ mem_pair_set p (covers p T j) c a hc ha

  goals_canonical : (T : List ℕ) (j : ℕ) → Canonical p (goals_in p T j)
  unfolding goals
  goals_canonical T j = set_canonical p _

  module _ (T : List ℕ) (j : ℕ) (b : Bounded p (goals_in p T j) (part_of p T j)) where
    entry_top : (c a : ℕ) → c < n_c p → a < n_a p → entry p T j c a ≤ blank
    entry_top c a hc ha = omega (arith, part_entry T j c a hc ha, b.low c a hc ha, rank_top p w (goals_in p T j) (goals_canonical T j) c a hc ha)

    covers_bit : (c a : ℕ) → c < n_c p → a < n_a p → leb (entry_of p (part_of p T j) c a) (blank - 1) ≡ and (matched p c a) (covers p T j c a)
    covers_bit c a hc ha = ⊎_elim
        (λ m. ap (λ (e : ℕ). leb e (blank - 1)) (part_entry T j c a hc ha) ∙ sym (covers_bound p T j c a (entry_top c a hc ha)) ∙ sym (and_true_l _ m))
        (λ m. lt-leb (entry_of p (part_of p T j) c a) (blank - 1) (omega (arith, b.unmatched c a hc ha m)) ∙ sym (and_false_l _ m)) (dec (matched p c a))

    -- the pairs up to the last rank are those that the section covers
    pub covered_rows : j < sets_a p → upto_rows (n_c p) (n_a p) (part_of p T j) (blank - 1) ≡ rows_of (get_or (covered_family p T) j [])
    covered_rows hj =
        holds_rows p w (covers p T j) (upto_holds p w (blank - 1) (omega arith) b) (λ c a hc ha. upto_bit p w (part_of p T j) (blank - 1) c a hc ha ∙ covers_bit c a hc ha)
        ∙ ap rows_of (sym (covered_at T j hj))

  -- ---- the first entries
  unmatched_blank : (G : List ℕ) → Canonical p G → (c a : ℕ) → c < n_c p → a < n_a p → matched p c a ≡ false → rank_over p G c a ≡ blank
  unmatched_blank G q c a hc ha m =
      outside_blank p w G q c a hc ha (refute _ (λ t. clash m (of_all_matched p c a hc ha (levels_matched p G c a hc ha t))))

  -- a section's first entries bound the ranks over any goals, and cover the matched pairs
  module _ {masks ys : List ℕ} (em : masks ≡ matched_masks p) (ey : ys ≡ write_rows (n_a p) masks (replicate 64 0) 0 (table (pairs p) (λ e. blank))) where
    first_entry : (c a : ℕ) → c < n_c p → a < n_a p → entry_of p ys c a ≡ cond (matched p c a) 0 blank
    first_entry c a hc ha =
        (first_at (pairs p) (n_a p) masks ey).1 (c * n_a p + a) (digits_lt hc ha)
        ∙ rw (digits_div c ha, digits_mod c ha, em) (ap (λ (b : Bool). cond b 0 blank) (has_matched_at p w c hc a ha))

    pub first_bounded : (G : List ℕ) → Canonical p G → Bounded p G ys
    first_bounded G q = record { long = (first_at (pairs p) (n_a p) masks ey).0; low = λ c a hc ha. ⊎_elim (yes c a hc ha) (no c a hc ha) (dec (matched p c a)); unmatched = λ c a hc ha m. first_entry c a hc ha ∙ rw m }
      where
        yes : (c a : ℕ) → c < n_c p → a < n_a p → matched p c a ≡ true → entry_of p ys c a ≤ rank_over p G c a
        yes c a hc ha m = let z : entry_of p ys c a ≡ 0 = first_entry c a hc ha ∙ rw m in omega arith

        no : (c a : ℕ) → c < n_c p → a < n_a p → matched p c a ≡ false → entry_of p ys c a ≤ rank_over p G c a
        no c a hc ha m = let z : entry_of p ys c a ≡ blank = first_entry c a hc ha ∙ rw m in omega (arith, unmatched_blank G q c a hc ha m)

    pub first_covered : masks ≡ upto_rows (n_c p) (n_a p) ys (blank - 1)
    unfolding none all_matched and
    first_covered = em ∙ matched_rows p w ∙ sym (holds_rows p w (λ c a. true) (upto_holds p w (blank - 1) (omega arith) (first_bounded (none p) (set_canonical p _))) bits)
      where
        bits : (c a : ℕ) → c < n_c p → a < n_a p → has_bit (get_or (upto_rows (n_c p) (n_a p) ys (blank - 1)) c 0) a ≡ and (matched p c a) true
        bits c a hc ha = upto_bit p w ys (blank - 1) c a hc ha ∙ ap (λ (x : ℕ). leb x (blank - 1)) (first_entry c a hc ha) ∙ tested (matched p c a)
          where
            tested : (b : Bool) → leb (cond b 0 blank) (blank - 1) ≡ and b true
            tested true = refl
            tested false = refl

  module _ {first T : List ℕ} (room : table_room ≤ length first) (d : Begun (pairs p) (n_a p) (matched_masks p) first (sets_a p) T) where
    begun_entry : (j c a : ℕ) → j < sets_a p → c < n_c p → a < n_a p → entry p T j c a ≡ cond (matched p c a) 0 blank
    unfolding entry
    begun_entry j c a hj hc ha =
        ap (λ (n : ℕ). get_or T n 0) (place j c a) ∙ d.begun j (c * n_a p + a) hj (digits_lt hc ha)
        ∙ rw (digits_div c ha, digits_mod c ha) (ap (λ (b : Bool). cond b 0 blank) (has_matched_at p w c hc a ha))

    begun_matched : (j c a : ℕ) → j < sets_a p → c < n_c p → a < n_a p → matched p c a ≡ true → entry p T j c a ≡ 0
    begun_matched j c a hj hc ha m = begun_entry j c a hj hc ha ∙ rw m

    begun_unmatched : (j c a : ℕ) → j < sets_a p → c < n_c p → a < n_a p → matched p c a ≡ false → entry p T j c a ≡ blank
    begun_unmatched j c a hj hc ha m = begun_entry j c a hj hc ha ∙ rw m

    pub sweeping_start : {due : ℕ} → due ≡ full_mask (sets_a p) → Sweeping p T due T
    sweeping_start {due} e = record {
      small = rw e (wider (sets_a p) (omega (arith, w.abstraction.sets_high)) (full_mask (sets_a p)) (full_lt (sets_a p)));
      low = λ i t. has_lt (sets_a p) (full_mask (sets_a p)) i (full_lt (sets_a p)) (ap (λ (m : ℕ). has_bit m i) (sym e) ∙ t);
      room = rw d.long room;
      long = refl;
      rest = λ i h. refl;
      bounded = λ j hj. record {
        long = part_long T j (rw d.long room) hj;
        low = λ c a hc ha. ⊎_elim
            (λ m. omega (arith, part_entry T j c a hc ha, begun_matched j c a hj hc ha m))
            (λ m. omega (arith, part_entry T j c a hc ha, begun_unmatched j c a hj hc ha m, unmatched_blank (goals_in p T j) (goals_canonical T j) c a hc ha m)) (dec (matched p c a));
        unmatched = λ c a hc ha m. part_entry T j c a hc ha ∙ begun_unmatched j c a hj hc ha m;
      };
      above = λ j hj c a hc ha t.
          let m : matched p c a ≡ true = of_all_matched p c a hc ha (levels_matched p _ c a hc ha ((family_is p).at j hj c a hc ha t)) in
          covered_mem T j c a hj hc ha ∙ and_i m (covers_of p T j c a (λ z. omega (arith, begun_matched j c a hj hc ha m)));
      exact = λ j hj t. absurd (clash t (ap (λ (m : ℕ). has_bit m (sets_a p - 1 - j)) e ∙ has_full (sets_a p) (sets_a p - 1 - j) ∙ lt-ltb (sets_a p - 1 - j) (sets_a p) (omega arith)));
    }

    -- what stands past the entries is what stood there
    pub begun_rest : drop (length (solver_table p)) T ≡ drop (length (solver_table p)) first
    begun_rest =
        let n : ℕ = length (solver_table p) in
        ext_get_or 0 (drop n T) (drop n first) (length-drop n T ∙ ap (λ (k : ℕ). k - n) d.long ∙ sym (length-drop n first))
        (λ e h. get_or-drop n T e 0 ∙ d.rest (n + e) (omega (arith, table_entries p)) ∙ sym (get_or-drop n first e 0))

  -- ---- a section is made anew
  module _ {T : List ℕ} {j : ℕ} (d : Renewable p j T) where
    abbrev G : List ℕ
    G = goals_in p T j

    pub goals_rows : {matched predecessors ahead g : List ℕ} {i : ℕ} → matched ≡ matched_masks p → predecessors ≡ abstract_predecessors p → i ≡ next (sets_a p) j
        → ahead ≡ upto_rows (n_c p) (n_a p) (part_of p T i) (blank - 1) → g ≡ goal_rows matched (fair_set p.abstraction j) (step_rows (n_c p) p.concrete.successors predecessors ahead)
        → g ≡ rows_of G
    goals_rows {i} em ep ei ea eg =
        let hi : i < sets_a p = rw ei (next_lt (sets_a p) j d.section) in
        eg ∙ rw (em, ep, ea) (goals_is p w (covered_family p T) j _ (ap (pairs_in p) (covered_rows T i (d.bounded i hi) hi)
        ∙ set_back p w (get_or (covered_family p T) i []) (covered_canonical T i hi) ∙ ap (λ (n : ℕ). get_or (covered_family p T) n []) ei))

    pub goals_held : {g : List ℕ} → g ≡ rows_of G → (pairs_in p g ≡ G) × Holds p g
    goals_held e = (ap (pairs_in p) e ∙ set_back p w G (goals_canonical T j), holds_set p w G (goals_canonical T j) e)

    pub renewed : {ys old y : List ℕ} {a k : ℕ} {changed : Bool} → a ≡ j * pairs p → k ≡ pairs p → AreRanks p G ys
        → old ≡ upto_rows (n_c p) (n_a p) (part_of p T j) (blank - 1) → y ≡ rows_of (levels p G) → changed ≡ not (same_rows (n_c p) old y)
        → Renewed p j T changed (patch T a ys k)
    renewed {ys} {old} {y} {a} {k} {changed} ea ek r eo ey ec = record {
      long = patched_long T ys d.room d.section ea ek r.long;
      others = patched_others T ys d.room d.section ea ek r.long;
      ranks = patched_ranks T ys d.room d.section ea ek r.long r;
      same = λ t. set_ext p _ _ (covered_canonical T j d.section) (levels_canonical p G)
          (same_within p _ _ (not_false _ (sym told ∙ t))) (same_holds p _ _ (not_false _ (sym told ∙ t)));
      differs = λ t q. clash (not_e _ (sym told ∙ t)) (rw q (same_of p (levels p G) (levels p G) (Within_refl p (levels p G)) (Within_refl p (levels p G))));
    }
      where
        told : changed ≡ not (same_set p (get_or (covered_family p T) j []) (levels p G))
        told = ec ∙ ap not (ap₂ (same_rows (n_c p)) (eo ∙ covered_rows T j (d.bounded j d.section) d.section) ey
            ∙ rows_same p w (n_c p) (omega arith) w.concrete.states_high _ _ (covered_canonical T j d.section) (levels_canonical p G))

  -- ---- and with it the table
  module _ {first T U : List ℕ} {due : ℕ} {j : ℕ} {changed : Bool} (d : Sweeping p first due T) (hj : j < sets_a p) (r : Renewed p j T changed U) where
    abbrev Goals : List ℕ
    Goals = goals_in p T j

    room : table_room ≤ length U
    room = rw r.long d.room

    -- other sections have their entries, this one its ranks
    other_entry : (s c a : ℕ) → (s ≡ j → ⊥) → c < n_c p → a < n_a p → entry p U s c a ≡ entry p T s c a
    unfolding entry
    other_entry s c a n hc ha = ap (λ (e : ℕ). get_or U e 0) (place s c a) ∙ r.others (s * pairs p + (c * n_a p + a)) (apart (dec_lt s j)) ∙ ap (λ (e : ℕ). get_or T e 0) (sym (place s c a))
      where
        apart : Dec (s < j) → (s * pairs p + (c * n_a p + a) < j * pairs p) ⊎ (j * pairs p + pairs p ≤ s * pairs p + (c * n_a p + a))
        apart (yes l) = let q : suc s * pairs p ≤ j * pairs p = mul-le-mul_right (pairs p) l in inl (omega (arith, digits_lt hc ha))
        apart (no l) = let q : suc j * pairs p ≤ s * pairs p = mul-le-mul_right (pairs p) (omega arith) in inr (omega arith)

    this_entry : (c a : ℕ) → c < n_c p → a < n_a p → entry p U j c a ≡ rank_over p Goals c a
    this_entry c a hc ha = sym (part_entry U j c a hc ha) ∙ r.ranks.ranks c a hc ha

    -- so other sections cover what they did, this one its levels
    other_set : (s : ℕ) → s < sets_a p → (s ≡ j → ⊥) → get_or (covered_family p U) s [] ≡ get_or (covered_family p T) s []
    unfolding covers
    other_set s hs n = covered_at U s hs
        ∙ pair_set_cong p _ _ (λ c a hc ha m. ap (λ (e : ℕ). not (eqb e blank)) (other_entry s c a n hc ha)) ∙ sym (covered_at T s hs)

    this_covers : (c a : ℕ) → c < n_c p → a < n_a p → mem p (levels p Goals) c a ≡ true → covers p U j c a ≡ true
    this_covers c a hc ha t = covers_of p U j c a (λ z. omega (arith, this_entry c a hc ha, levels_ranked p w Goals (goals_canonical T j) c a hc ha t, places_small p w))

    this_set : get_or (covered_family p U) j [] ≡ levels p Goals
    this_set = set_ext p _ _ (covered_canonical U j hj) (levels_canonical p Goals)
        (λ c a hc ha t. ⊎_elim (λ u. u)
        (λ u. absurd (covers_at p U j c a (and_r _ _ (sym (covered_mem U j c a hj hc ha) ∙ t)) (this_entry c a hc ha ∙ outside_blank p w Goals (goals_canonical T j) c a hc ha u)))
        (dec (mem p (levels p Goals) c a)))
        (λ c a hc ha t. covered_mem U j c a hj hc ha ∙ and_i (of_all_matched p c a hc ha (levels_matched p Goals c a hc ha t)) (this_covers c a hc ha t))

    -- nothing is covered that was not
    levels_old : Within p (levels p Goals) (get_or (covered_family p T) j [])
    levels_old c a hc ha t =
        covered_mem T j c a hj hc ha ∙ sym (covers_bit T j (d.bounded j hj) c a hc ha) ∙ levels_covered p w Goals (goals_canonical T j) (d.bounded j hj) c a hc ha t

    shrinks : WithinF p (covered_family p U) (covered_family p T)
    shrinks s hs = by_cases (ℕ_discrete s j)
        (λ e. rw (e, this_set) levels_old)
        (λ n. rw (other_set s hs n) (Within_refl p _))

    rises : (s c a : ℕ) → s < sets_a p → c < n_c p → a < n_a p → rank_over p (goals_in p T s) c a ≤ rank_over p (goals_in p U s) c a
    rises s c a hs hc ha = ranks_rise p w (goals_in p U s) (goals_in p T s) (goals_canonical U s) (goals_canonical T s) (goals_mono p _ _ shrinks s hs) c a hc ha

    still_bounded : (s : ℕ) → s < sets_a p → Bounded p (goals_in p U s) (part_of p U s)
    still_bounded s hs = by_cases (ℕ_discrete s j) this other
      where
        this : s ≡ j → Bounded p (goals_in p U s) (part_of p U s)
        this e = record {
          long = part_long U s room hs;
          low = λ c a hc ha. omega (arith, part_entry U s c a hc ha, rw (← e) at (this_entry c a hc ha), rises s c a hs hc ha);
          unmatched = λ c a hc ha m. part_entry U s c a hc ha ∙ rw e (this_entry c a hc ha) ∙ unmatched_blank Goals (goals_canonical T j) c a hc ha m;
        }

        other : (s ≡ j → ⊥) → Bounded p (goals_in p U s) (part_of p U s)
        other n = record {
          long = part_long U s room hs;
          low = λ c a hc ha. omega (arith, part_entry U s c a hc ha, other_entry s c a n hc ha, part_entry T s c a hc ha, (d.bounded s hs).low c a hc ha, rises s c a hs hc ha);
          unmatched = λ c a hc ha m. part_entry U s c a hc ha ∙ other_entry s c a n hc ha ∙ sym (part_entry T s c a hc ha) ∙ (d.bounded s hs).unmatched c a hc ha m;
        }

    still_above : WithinF p (family p) (covered_family p U)
    still_above s hs = by_cases (ℕ_discrete s j)
        (λ e. rw (e, this_set) (λ c a hc ha t. levels_mono p _ _ (goals_mono p (family p) (covered_family p T) d.above j hj) c a hc ha ((family_is p).at j hj c a hc ha t)))
        (λ n. rw (other_set s hs n) (d.above s hs))

    -- the goals of a section stay where the next section's set does
    goals_stay : (s : ℕ) → get_or (covered_family p U) (next (sets_a p) s) [] ≡ get_or (covered_family p T) (next (sets_a p) s) [] → goals_in p U s ≡ goals_in p T s
    unfolding goals
    goals_stay s e = rw e

    -- a section that is not due after the turn has its ranks
    still_exact : (s : ℕ) → s < sets_a p → get_or (covered_family p U) (next (sets_a p) s) [] ≡ get_or (covered_family p T) (next (sets_a p) s) []
        → ((s ≡ j → ⊥) → has_bit due (sets_a p - 1 - s) ≡ false) → AreRanks p (goals_in p U s) (part_of p U s)
    still_exact s hs e old = rw (goals_stay s e) (record {
      long = part_long U s room hs;
      ranks = λ c a hc ha. part_entry U s c a hc ha ∙ by_cases (ℕ_discrete s j)
          (λ q. rw q (this_entry c a hc ha))
          (λ n. other_entry s c a n hc ha ∙ sym (part_entry T s c a hc ha) ∙ (d.exact s hs (old n)).ranks c a hc ha);
    })

    module _ {i : ℕ} (ei : i ≡ lowest_of 64 due) (z : due ≡ 0 → ⊥) (ej : j ≡ sets_a p - 1 - i) where
      some_due : 0 < due
      some_due = omega arith

      place_low : i < sets_a p
      place_low = d.low i (ap (has_bit due) ei ∙ lowest_set 64 due some_due d.small)

      -- a section that is not left and not this one was not due
      not_due : (s : ℕ) → s < sets_a p → has_bit (rest_of due) (sets_a p - 1 - s) ≡ false → (s ≡ j → ⊥) → has_bit due (sets_a p - 1 - s) ≡ false
      not_due s hs t n = refute _ (λ u. clash t (rest_keeps 64 due some_due d.small (sets_a p - 1 - s) u (λ q. n (omega (arith, place_low)))))

      -- the section before this one stands at the place after this one's
      before_place : (s : ℕ) → s < sets_a p → next (sets_a p) s ≡ j → sets_a p - 1 - s ≡ next (sets_a p) i
      before_place s hs e = by_cases (dec_lt (suc s) (sets_a p))
          (λ l. omega (arith, rw (next_step (sets_a p) s l) at e, next_step (sets_a p) i (omega (arith, rw (next_step (sets_a p) s l) at e, place_low)), place_low))
          (λ l. let q : j ≡ 0 = sym e ∙ next_wrap (sets_a p) s (omega arith) in omega (arith, next_wrap (sets_a p) i (omega (arith, place_low))))

      swept : {left : ℕ} → left < 2 ^ 64 → ((b : ℕ) → has_bit left b ≡ true → b < sets_a p) → ((b : ℕ) → has_bit left b ≡ false → has_bit (rest_of due) b ≡ false)
          → ((s : ℕ) → s < sets_a p → next (sets_a p) s ≡ j → has_bit left (sets_a p - 1 - s) ≡ false → get_or (covered_family p U) j [] ≡ get_or (covered_family p T) j [])
          → Sweeping p first left U
      swept {left} small low kept same = record {
        small = small;
        low = low;
        room = room;
        long = r.long ∙ d.long;
        rest = λ e h. r.others e (inr (past e h)) ∙ d.rest e h;
        bounded = still_bounded;
        above = still_above;
        exact = λ s hs t. still_exact s hs
            (by_cases (ℕ_discrete (next (sets_a p) s) j) (λ q. rw q (same s hs q t)) (λ n. other_set (next (sets_a p) s) (next_lt (sets_a p) s hs) n))
            (not_due s hs (kept (sets_a p - 1 - s) t));
      }
        where
          past : (e : ℕ) → entries p ≤ e → j * pairs p + pairs p ≤ e
          past e h = let q : suc j * pairs p ≤ sets_a p * pairs p = mul-le-mul_right (pairs p) hj in omega arith

      pub sweeping_same : changed ≡ false → Sweeping p first (rest_of due) U
      sweeping_same t = swept (rest_small 64 due some_due d.small) (λ b u. d.low b (rest_has 64 due some_due d.small b u)) (λ b u. u) (λ s hs q u. this_set ∙ sym (r.same t))

      pub sweeping_changed : Sweeping p first (with_bit (rest_of due) (next (sets_a p) i)) U
      sweeping_changed = swept small
          (λ b u. ⊎_elim (λ v. d.low b (rest_has 64 due some_due d.small b v)) (λ v. rw (eqb-true b (next (sets_a p) i) v) (next_lt (sets_a p) i place_low)) (or_e (sym (bit b) ∙ u)))
          (λ b u. (or_none _ _ (sym (bit b) ∙ u)).0)
          (λ s hs q u. absurd (clash (or_none _ _ (sym (bit (sets_a p - 1 - s)) ∙ u)).1 (eq-eqb (sets_a p - 1 - s) (next (sets_a p) i) (before_place s hs q))))
        where
          few : next (sets_a p) i < 64
          few = omega (arith, next_lt (sets_a p) i place_low, w.abstraction.sets_high)

          bit : (b : ℕ) → has_bit (with_bit (rest_of due) (next (sets_a p) i)) b ≡ or (has_bit (rest_of due) b) (eqb b (next (sets_a p) i))
          bit b = has_with (rest_of due) (next (sets_a p) i) b few

          small : with_bit (rest_of due) (next (sets_a p) i) < 2 ^ 64
          small = with_small (rest_of due) (next (sets_a p) i) few (rest_small 64 due some_due d.small)

    -- where the set has changed, fewer entries are covered
    still_covered : (s c a : ℕ) → s < sets_a p → c < n_c p → a < n_a p → covers p U s c a ≡ true → covers p T s c a ≡ true
    unfolding covers
    still_covered s c a hs hc ha t = by_cases (ℕ_discrete s j)
        (λ q. ⊎_elim
        (λ u. rw q (and_r _ _ (sym (covered_mem T j c a hj hc ha) ∙ levels_old c a hc ha u)))
        (λ u. absurd (covers_at p U s c a t (rw q (this_entry c a hc ha) ∙ outside_blank p w Goals (goals_canonical T j) c a hc ha u))) (dec (mem p (levels p Goals) c a)))
        (λ n. ap (λ (e : ℕ). not (eqb e blank)) (sym (other_entry s c a n hc ha)) ∙ t)

    entry_covered : (e : ℕ) → e < entries p → not (eqb (get_or U e 0) blank) ≡ true → not (eqb (get_or T e 0) blank) ≡ true
    unfolding covers
    entry_covered e h t =
        let s : ℕ = e / pairs p in
        let i : ℕ = e % pairs p in
        let hi : i < pairs p = mod-lt e (some_pairs p w) in
        let y : s * pairs p + i ≡ e = div-add-mod' e (pairs p) in
        ap (λ (n : ℕ). not (eqb n blank)) (sym (entry_at_lem T s i hi ∙ ap (λ (n : ℕ). get_or T n 0) y))
        ∙ still_covered s (i / n_a p) (i % n_a p) ((div-lt_iff_lt-mul (some_pairs p w)).1 h) (row_of i hi) (state_of_lem i)
        (ap (λ (n : ℕ). not (eqb n blank)) (entry_at_lem U s i hi ∙ ap (λ (n : ℕ). get_or U n 0) y) ∙ t)

    pub covered_stays : covered_count p U ≤ covered_count p T
    unfolding covered_count
    covered_stays = count_mono (entries p) _ _ entry_covered

    pub covered_falls : changed ≡ true → covered_count p U < covered_count p T
    unfolding covered_count count covers entry
    covered_falls t = by_cases (dec_lt (covered_count p U) (covered_count p T)) (λ l. l) (λ l. absurd (r.differs t (same (omega arith))))
      where
        Bit : List ℕ → ℕ → ℕ
        Bit L e = cond (not (eqb (get_or L e 0) blank)) 1 0

        same : sum (entries p) (Bit T) ≤ sum (entries p) (Bit U) → get_or (covered_family p T) j [] ≡ levels p Goals
        same l = set_ext p _ _ (covered_canonical T j hj) (levels_canonical p Goals) (λ c a hc ha u.
            let e : ℕ = entry_index (n_c p) (n_a p) j c a in
            let m = sym (covered_mem T j c a hj hc ha) ∙ u in
            let v = bit_eq (not (eqb (get_or U e 0) blank)) (not (eqb (get_or T e 0) blank)) (entry_covered e (index_entries p j c a hj hc ha))
            (sum_eq (entries p) (Bit U) (Bit T) (λ i h. bit_mono _ _ (entry_covered i h)) l e (index_entries p j c a hj hc ha)) (and_r _ _ m) in
            rw (← this_set) (covered_mem U j c a hj hc ha ∙ and_i (and_l _ _ m) v))
            levels_old

  -- ---- no section is due
  module _ {first T : List ℕ} {due : ℕ} (z : due ≡ 0) (d : Sweeping p first due T) where
    all : (s : ℕ) → s < sets_a p → AreRanks p (goals_in p T s) (part_of p T s)
    all s hs = d.exact s hs (ap (λ (m : ℕ). has_bit m (sets_a p - 1 - s)) z ∙ has_none (sets_a p - 1 - s))

    -- each set lies within its levels, so that the table covers the family and nothing else
    inside : (s : ℕ) → s < sets_a p → Within p (get_or (covered_family p T) s []) (levels p (goals_in p T s))
    inside s hs c a hc ha t = ⊎_elim (λ u. u)
        (λ u. absurd (covers_at p T s c a (and_r _ _ (sym (covered_mem T s c a hs hc ha) ∙ t))
        (sym (part_entry T s c a hc ha) ∙ (all s hs).ranks c a hc ha ∙ outside_blank p w (goals_in p T s) (goals_canonical T s) c a hc ha u)))
        (dec (mem p (levels p (goals_in p T s)) c a))

    whole : covered_family p T ≡ family p
    unfolding covered_family
    whole = family_ext p _ _ (tabled p _ (λ s hs. set_canonical p (covers p T s))) (family_tabled p) ((family_is p).largest _ inside) d.above

    pub sweeping_done : T ≡ solver_table p ++ drop (length (solver_table p)) first
    unfolding solver_table
    sweeping_done = ranked_done refl (omega (arith, d.room, d.long)) (record {
      long = d.long;
      ranks = λ s hs. rw whole at (all s hs);
      rest = d.rest;
    })
