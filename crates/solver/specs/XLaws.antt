-- The largest set within a start is X(l, k), where the start holds that set and matched pairs only.
use Rattle.std.proofs.Math.Bool.{Bool, true, false, cond}
use mathlib.Core.List.{List}
use Rattle.std.proofs.Math.Logic.{⊎_elim, by_cases}
use Rattle.std.specs.Prelude.{◌≡◌, refl, length}
use Rattle.std.proofs.Math.Path.{sym, ap}
use Rattle.std.proofs.Common.{◌∙◌, arith}
use Prim.Native.Nat.{ℕ, ◌^◌, ◌≤◌, ◌<◌}
use Rattle.std.proofs.Math.Decide.{dec_lt}
use Rattle.std.proofs.Math.ListN.{get_or}
use Rattle.mask.specs.Logic.{and, or}
use Rattle.mask.specs.LogicLaws.{clash, both, and_r, and_i, or_l, or_r, or_e}
use Rattle.mask.specs.Bits.{has_bit}
use Rattle.mask.specs.BitsLaws.{has_or, has_none, has_lt, mask_ext}
use Rattle.mask.specs.TablesLaws.{fill_done, mask_of_is}
use Rattle.machine.specs.declared.Pair.{Pair}
use Rattle.machine.specs.Machines.{in_fair_set, fair_set, matched, n_c, n_a}
use Rattle.machine.specs.Step.{steps}
use Rattle.machine.specs.Observed.{matched_masks}
use Rattle.machine.specs.WellFormedLaws.{WellPair}
use Rattle.machine.specs.Game.{pair_set, mem, x_over}
use Rattle.theory.specs.Statements.{Within}
use Rattle.theory.specs.GameLaws.{Canonical, mem_pair_set, InX, goal, lower, stay, x_over_is, x_over_canonical}
use Rattle.rows.specs.Rows.{rows_of, pairs_in, meet_of, partner_rows, join_rows, abstract_predecessors, steps_of}
use Rattle.rows.specs.SetRowsLaws.{rows_at, rows_small, mem_in, set_back, set_row, set_past, base_is, has_meet}
use Rattle.solver.specs.Ranking.{Holds}
use Rattle.rows.specs.Largest.{Inside, rule_row, Largest}

-- the rows hold matched pairs of the machines only
pub record HoldsMatched (p : Pair) (rows : List ℕ) : Type 0 where
  pub long : length rows ≡ 64
  pub small : (c : ℕ) → c < n_c p → get_or rows c 0 < 2 ^ n_a p
  pub past : (c : ℕ) → n_c p ≤ c → get_or rows c 0 ≡ 0
  pub in_matched : (c a : ℕ) → c < n_c p → a < n_a p → has_bit (get_or rows c 0) a ≡ true → matched p c a ≡ true

-- the rows of a set of pairs hold it and nothing else
pub holds_set : (p : Pair) → WellPair p → {rows : List ℕ} (S : List ℕ) → Canonical p S → rows ≡ rows_of S → Holds p rows
holds_set p w S q e =
    let b : pairs_in p (rows_of S) ≡ S = set_back p w S q in
    rw e (record { only_matched = rw b q; only_rows = rw b })

-- they are the rows of the set that has exactly their pairs
pub holds_rows : (p : Pair) → WellPair p → {rows : List ℕ} (f : ℕ → ℕ → Bool) → HoldsMatched p rows
    → ((c a : ℕ) → c < n_c p → a < n_a p → has_bit (get_or rows c 0) a ≡ and (matched p c a) (f c a)) → rows ≡ rows_of (pair_set p f)
unfolding rows_of
holds_rows p w {rows} f h bits = fill_done 0 64 rows _ h.long (λ c l. by_cases (dec_lt c (n_c p))
    (λ hc. mask_of_is (n_a p) (get_or rows c 0) _ (h.small c hc) (λ a ha. bits c a hc ha) ∙ sym (set_row p f c hc))
    (λ n. h.past c (omega arith) ∙ sym (set_past p f c (omega arith))))

module _ (p : Pair) (w : WellPair p) (goals below : List ℕ) (k : ℕ) where
  abbrev G : List ℕ
  G = pairs_in p goals

  abbrev B : List ℕ
  B = pairs_in p below

  abbrev Base : List ℕ
  Base = join_rows (matched_masks p) goals (steps_of p below)

  abbrev Preds : List ℕ
  Preds = abstract_predecessors p

  abbrev Rule : List ℕ → ℕ → ℕ
  Rule = rule_row (n_c p) p.concrete.successors Preds Base (fair_set p.concrete k)

  abbrev X : List ℕ
  X = x_over p G B k

  wide : (c : ℕ) → c < n_c p → c < 64
  wide c h = omega (arith, w.concrete.states_high)

  base_bit : (c a : ℕ) → c < n_c p → a < n_a p → has_bit (get_or Base c 0) a ≡ and (matched p c a) (or (mem p G c a) (steps p (mem p B) c a))
  unfolding mem
  base_bit c a hc ha =
      ap (λ (R : List ℕ). has_bit (get_or R c 0) a) (base_is p w goals below)
      ∙ ap (λ (m : ℕ). has_bit m a) (rows_at _ c (wide c hc))
      ∙ mem_pair_set p (λ d b. or (mem p G d b) (steps p (mem p B) d b)) c a hc ha

  -- the rule on rows is the rule of X(l, k)
  rule_at : (x : List ℕ) (c a : ℕ) → c < n_c p → a < n_a p → has_bit (Rule x c) a ≡ true → InX p G B k (pairs_in p x) c a
  unfolding rule_row in_fair_set
  rule_at x c a hc ha t = ⊎_elim
      (λ u. ⊎_elim goal lower (or_e (and_r _ _ (sym (base_bit c a hc ha) ∙ u))))
      (outside (has_bit (fair_set p.concrete k) c) refl)
      (or_e (sym (has_or a (get_or Base c 0) _) ∙ t))
    where
      outside : (b : Bool) → has_bit (fair_set p.concrete k) c ≡ b
          → has_bit (cond b 0 (meet_of (get_or p.concrete.successors c 0) (partner_rows (n_c p) Preds x))) a ≡ true → InX p G B k (pairs_in p x) c a
      outside true e u = absurd (clash (has_none a) u)
      outside false e u = stay e (sym (has_meet p w x c a hc ha) ∙ u)

  rule_of : (x : List ℕ) (c a : ℕ) → c < n_c p → a < n_a p → matched p c a ≡ true → InX p G B k (pairs_in p x) c a → has_bit (Rule x c) a ≡ true
  unfolding rule_row in_fair_set
  rule_of x c a hc ha m i = has_or a (get_or Base c 0) _ ∙ ways i
    where
      Step : Bool → ℕ
      Step b = cond b 0 (meet_of (get_or p.concrete.successors c 0) (partner_rows (n_c p) Preds x))

      ways : InX p G B k (pairs_in p x) c a → or (has_bit (get_or Base c 0) a) (has_bit (Step (has_bit (fair_set p.concrete k) c)) a) ≡ true
      ways (goal t) = or_l _ (base_bit c a hc ha ∙ and_i m (or_l _ t))
      ways (lower t) = or_l _ (base_bit c a hc ha ∙ and_i m (or_r _ t))
      ways (stay e t) = or_r _ (ap (λ (b : Bool). has_bit (Step b) a) e ∙ has_meet p w x c a hc ha ∙ t)

  module _ {start x : List ℕ} (h : HoldsMatched p start) (d : Largest (n_c p) p.concrete.successors Preds Base (fair_set p.concrete k) start x)
      (inside : (c a : ℕ) → c < n_c p → a < n_a p → mem p X c a ≡ true → has_bit (get_or start c 0) a ≡ true) where
    small : (c : ℕ) → c < n_c p → get_or x c 0 < 2 ^ n_a p
    small c hc = omega (arith, d.below c, h.small c hc)

    -- what meets the rule on rows lies within X(l, k)
    x_in : Within p (pairs_in p x) X
    x_in = (x_over_is p G B k).largest (pairs_in p x) (λ c a hc ha t.
        let u = sym (mem_in p x c a hc) ∙ t in (h.in_matched c a hc ha (d.inside c a hc u), rule_at x c a hc ha (d.meets c a hc u)))

    -- and X(l, k) meets it
    X_bit : (c a : ℕ) → c < n_c p → has_bit (get_or (rows_of X) c 0) a ≡ mem p X c a
    unfolding mem
    X_bit c a hc = ap (λ (m : ℕ). has_bit m a) (rows_at X c (wide c hc))

    X_low : (c a : ℕ) → c < n_c p → has_bit (get_or (rows_of X) c 0) a ≡ true → a < n_a p
    X_low c a hc t = has_lt (n_a p) _ a (rows_small p w X (x_over_canonical p G B k) c hc) t

    X_in : Inside (n_c p) (rows_of X) x
    X_in = d.largest (rows_of X)
        (λ c a hc t. inside c a hc (X_low c a hc t) (sym (X_bit c a hc) ∙ t))
        (λ c a hc t.
        let ha = X_low c a hc t in
        let q = (x_over_is p G B k).at c a hc ha (sym (X_bit c a hc) ∙ t) in
        rule_of (rows_of X) c a hc ha q.0 (rw (set_back p w X (x_over_canonical p G B k)) q.1))

    pub largest_is : x ≡ rows_of X
    unfolding rows_of mem
    largest_is = fill_done 0 64 x _ d.long (λ c l. by_cases (dec_lt c (n_c p))
        (λ hc. mask_ext (n_a p) _ _ (small c hc) (rw (← rows_at X c l) (rows_small p w X (x_over_canonical p G B k) c hc)) (λ a ha. both _ _
        (λ t. x_in c a hc ha (mem_in p x c a hc ∙ t))
        (λ t. X_in c a hc (X_bit c a hc ∙ t))))
        (λ n. d.beyond c (omega arith) ∙ h.past c (omega arith) ∙ sym (X_past c (omega arith))))
      where
        X_past : (c : ℕ) → n_c p ≤ c → get_or X c 0 ≡ 0
        X_past c l = ap (λ (S : List ℕ). get_or S c 0) (x_over_canonical p G B k) ∙ set_past p (mem p X) c l
