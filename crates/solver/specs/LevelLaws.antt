-- Laws of a level's sets in turn, and of the levels one after the other, over what is computed once of the machines.
use Rattle.std.specs.Prelude.{true, false, ◌≡◌, refl, ℕ, suc, ◌+◌, ◌-◌, ◌*◌, ◌≤◌, ◌<◌, replicate}
use mathlib.Core.List.{List, []}
use Rattle.std.proofs.Math.Logic.{by_cases}
use Rattle.std.proofs.Math.Path.{sym, ap}
use Rattle.std.proofs.Common.{ap₂, ◌∙◌, mul-le-mul_right, add-one, arith}
use Rattle.std.proofs.Math.Decide.{dec_lt}
use Rattle.std.proofs.Math.Arith.{digits_lt}
use Rattle.std.proofs.Math.ListN.{length, get_or}
use Rattle.mask.specs.Bits.{has_bit}
use Rattle.mask.specs.TablesLaws.{fill_done}
use Rattle.machine.specs.declared.Pair.{Pair}
use Rattle.machine.specs.Machines.{fair_set, n_c, n_a, sets_c, pairs}
use Rattle.machine.specs.Observed.{matched_masks}
use Rattle.machine.specs.WellFormedLaws.{WellPair, well_pair}
use Rattle.machine.specs.Game.{mem, same_set, none, x_over, level, x_set, levels}
use Rattle.machine.specs.Ranks.{tower}
use Rattle.machine.specs.Table.{blank}
use Rattle.theory.specs.Statements.{Within}
use Rattle.theory.specs.GameLaws.{x_over_is, x_over_canonical, same_holds, level_zero, level_canonical, levels_eq, levels_canonical, levels_is, level_levels, level_suc, set_ext}
use Rattle.theory.specs.TowerLaws.{tower_at}
use Rattle.rows.specs.Rows.{rows_of, pairs_in, join_rows, same_rows, step_rows, abstract_predecessors, steps_of}
use Rattle.rows.specs.SetRowsLaws.{mem_in, in_at, in_past, rows_same, set_back, no_rows}
use Rattle.rows.specs.Entries.{upto_rows, write_rows}
use Rattle.rows.specs.Largest.{Largest}
use Rattle.solver.specs.Ranking.{Prepared, Holds, seen_upto, Bounded, RankedTo, AreRanks, LevelMade}
use Rattle.solver.specs.XLaws.{HoldsMatched, largest_is}
use Rattle.solver.specs.RankRowsLaws.{places_small, upto_bit, upto_holds, ranked_done, seen_start, seen_more, seen_level, ranked_more, ranked_all, start_holds}

-- no blank comes or goes over two parts either
pub ranked_trans : {p : Pair} {G first mid part : List ℕ} {i n : ℕ} → RankedTo p G first i mid → RankedTo p G mid n part → RankedTo p G first n part
ranked_trans d e = record {
  bounded = e.bounded;
  final = e.final;
  blank_kept = λ c a hc ha b. e.blank_kept c a hc ha (d.blank_kept c a hc ha b);
  blank_old = λ c a hc ha b. d.blank_old c a hc ha (e.blank_old c a hc ha b);
}

pub ranked_self : {p : Pair} {G first part : List ℕ} {i : ℕ} → RankedTo p G first i part → RankedTo p G part i part
ranked_self d = record { bounded = d.bounded; final = d.final; blank_kept = λ c a hc ha b. b; blank_old = λ c a hc ha b. b }

-- the same for a bound that is written in another way
pub ranked_at : {p : Pair} {G first part : List ℕ} {i n : ℕ} → i ≡ n → RankedTo p G first i part → RankedTo p G first n part
ranked_at e d = rw (← e) d

module _ {p : Pair} {matched dependents predecessors goals : List ℕ} (m : Prepared p matched dependents predecessors) (h : Holds p goals) where
  abbrev W : WellPair p
  W = well_pair p m.well

  abbrev G : List ℕ
  G = pairs_in p goals

  -- ---- one level: its sets in turn
  module _ {l : ℕ} {below first : List ℕ} (hl : l < pairs p) (eb : below ≡ rows_of (level p G l)) (d : RankedTo p G first (l * sets_c p) first) where
    abbrev X : ℕ → List ℕ
    X = x_over p G (level p G l)

    -- a place of the tower, for k from 0
    place_lt : (k : ℕ) → k < sets_c p → l * sets_c p + k < pairs p * sets_c p
    place_lt k hk = digits_lt hl hk

    pub made_start : {seen : List ℕ} → seen ≡ join_rows matched goals below → LevelMade p G first l 0 seen first
    made_start {seen} e = record {
      seen_are = e ∙ ap (λ (M : List ℕ). join_rows M goals below) m.matched_are ∙ ap₂ (join_rows (matched_masks p)) h.only_rows eb
          ∙ seen_start p W G h.only_matched l (omega arith) ∙ ap (λ (n : ℕ). rows_of (seen_upto p G n)) same;
      ranked = ranked_at same d;
    }
      where
        same : l * sets_c p ≡ l * sets_c p + 0
        same = omega arith

    -- what the loop over due rows leaves is X(l + 1, k)
    pub x_is : {steps base start x : List ℕ} {bound : ℕ} (k : ℕ) → k < sets_c p → steps ≡ step_rows (n_c p) p.concrete.successors predecessors below
        → base ≡ join_rows matched goals steps → bound ≡ (l + 1) * sets_c p → start ≡ upto_rows (n_c p) (n_a p) first bound
        → Largest (n_c p) p.concrete.successors predecessors base (get_or p.concrete.fairness k 0) start x → x ≡ rows_of (X k)
    unfolding fair_set
    x_is {steps} {base} {start} {x} {bound} k hk et ebase ebound es q =
        largest_is p W goals below k holds made inside ∙ ap (λ (B : List ℕ). rows_of (x_over p G B k)) below_is
      where
        base_is : base ≡ join_rows (matched_masks p) goals (steps_of p below)
        base_is = ebase ∙ rw (et, m.matched_are, m.predecessors_are)

        below_is : pairs_in p below ≡ level p G l
        below_is = ap (pairs_in p) eb ∙ set_back p W (level p G l) (level_canonical p G l)

        sized : bound ≡ l * sets_c p + sets_c p
        sized = omega (arith, ebound)

        holds : HoldsMatched p start
        holds =
            let fits : suc l * sets_c p ≤ pairs p * sets_c p = mul-le-mul_right (sets_c p) hl in
            rw es (upto_holds p W bound (omega (arith, ebound, places_small p W)) d.bounded)

        made : Largest (n_c p) p.concrete.successors (abstract_predecessors p) (join_rows (matched_masks p) goals (steps_of p below)) (fair_set p.concrete k) start x
        made = rw (← base_is, ← m.predecessors_are) q

        inside : (c a : ℕ) → c < n_c p → a < n_a p → mem p (x_over p G (pairs_in p below) k) c a ≡ true → has_bit (get_or start c 0) a ≡ true
        inside c a hc ha t = rw (es, sized) (start_holds p W G h.only_matched l k hl hk d c a hc ha (rw below_is at t))

    tower_is : (k : ℕ) → k < sets_c p → get_or (tower p G) (l * sets_c p + k) [] ≡ X k
    unfolding x_set
    tower_is k hk = tower_at p G l k hl hk

    pub made_turn : {seen part x : List ℕ} {v k : ℕ} → k < sets_c p → x ≡ rows_of (X k) → v ≡ l * sets_c p + k + 1 → LevelMade p G first l k seen part
        → LevelMade p G first l (k + 1) (join_rows matched x seen) (write_rows (n_a p) x seen v part)
    made_turn {seen} {part} {x} {v} {k} hk ex ev q = record {
      seen_are = ap₂ (λ (M S : List ℕ). join_rows M S seen) m.matched_are ex ∙ ap (join_rows (matched_masks p) (rows_of (X k))) q.seen_are
          ∙ seen_more p W G h.only_matched (l * sets_c p + k) (X k) (x_over_canonical p G (level p G l) k) (tower_is k hk) ∙ ap (λ (n : ℕ). rows_of (seen_upto p G n)) next;
      ranked = rw (ex, q.seen_are, ev, add-one (l * sets_c p + k)) (ranked_at next
          (ranked_more p W G h.only_matched (place_lt k hk) q.ranked (X k) (tower_is k hk) (λ c a hc ha t. ((x_over_is p G (level p G l) k).at c a hc ha t).0)));
    }
      where
        next : suc (l * sets_c p + k) ≡ l * sets_c p + (k + 1)
        next = omega arith

    pub made_done : {seen part : List ℕ} {k : ℕ} → k ≡ sets_c p → LevelMade p G first l k seen part
        → (seen ≡ rows_of (level p G (l + 1))) × RankedTo p G first ((l + 1) * sets_c p) part
    made_done {seen} {part} {k} ek q = (
      q.seen_are ∙ ap (λ (n : ℕ). rows_of (seen_upto p G n)) here ∙ ap rows_of (seen_level p W G h.only_matched l hl) ∙ ap (λ (n : ℕ). rows_of (level p G n)) (sym (add-one l)),
      ranked_at (here ∙ ap (λ (n : ℕ). n * sets_c p) (sym (add-one l))) q.ranked,
    )
      where
        here : l * sets_c p + k ≡ suc l * sets_c p
        here = omega arith

  -- ---- the levels, one after the other
  pub levels_start : replicate 64 0 ≡ rows_of (level p G 0)
  unfolding none
  levels_start = no_rows p W (λ c a. false) (λ c a hc ha. refl) ∙ ap rows_of (sym (level_zero p G))

  module _ {l : ℕ} {y : List ℕ} (hl : l < pairs p) (ey : y ≡ rows_of (level p G l)) where
    -- where a level is the one before, they are all there
    pub levels_stop : {next first part : List ℕ} → next ≡ rows_of (level p G (l + 1)) → same_rows (n_c p) y next ≡ true → RankedTo p G first ((l + 1) * sets_c p) part
        → (y ≡ rows_of (levels p G)) × RankedTo p G first (pairs p * sets_c p) part
    levels_stop {next} en t d = (
      ey ∙ ap rows_of (set_ext p _ _ (level_canonical p G l) (levels_canonical p G) (level_levels p G l) ((levels_is p G).least (level p G l) (rw (level_suc p G l) at last))),
      ranked_all p W G h.only_matched l hl (ap (λ (n : ℕ). n * sets_c p) (sym (add-one l))) last d,
    )
      where
        same : same_set p (level p G l) (level p G (suc l)) ≡ true
        same = sym (rows_same p W (n_c p) (omega arith) W.concrete.states_high (level p G l) (level p G (suc l)) (level_canonical p G l) (level_canonical p G (suc l)))
            ∙ ap₂ (same_rows (n_c p)) (sym ey) (sym (en ∙ ap (λ (n : ℕ). rows_of (level p G n)) (add-one l))) ∙ t

        last : Within p (level p G (suc l)) (level p G l)
        last = same_holds p (level p G l) (level p G (suc l)) same

  pub levels_out : {l : ℕ} {y : List ℕ} → l ≡ pairs p → y ≡ rows_of (level p G l) → y ≡ rows_of (levels p G)
  levels_out el ey = ey ∙ ap (λ (n : ℕ). rows_of (level p G n)) el ∙ ap rows_of (sym (levels_eq p G))

  -- ---- what was covered and is outside the levels becomes blank
  module _ {part covered : List ℕ} (b : Bounded p G part) (ec : covered ≡ upto_rows (n_c p) (n_a p) part (blank - 1)) where
    covered_set : covered ≡ rows_of (pairs_in p covered)
    unfolding rows_of
    covered_set =
        let k = upto_holds p W (blank - 1) (omega arith) b in
        fill_done 0 64 covered _ (ap length ec ∙ k.long) (λ c l. by_cases (dec_lt c (n_c p))
        (λ hc. sym (in_at p covered c hc))
        (λ n. ap (λ (R : List ℕ). get_or R c 0) ec ∙ k.past c (omega arith) ∙ sym (in_past p covered c (omega arith))))

    pub section_done : {y made T : List ℕ} → y ≡ rows_of (levels p G) → RankedTo p G part (pairs p * sets_c p) made → T ≡ write_rows (n_a p) covered y blank made → AreRanks p G T
    section_done ey d eT = rw (eT, ey, covered_set) (ranked_done p W G h.only_matched b d (pairs_in p covered)
        (λ c a hc ha. mem_in p covered c a hc ∙ ap (λ (R : List ℕ). has_bit (get_or R c 0) a) ec ∙ upto_bit p W part (blank - 1) c a hc ha))
