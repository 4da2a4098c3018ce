-- Laws of ranks: how each came about, and that the solver's table holds them.
use Rattle.std.specs.Prelude.{Bool, true, false, cond, ◌⊎◌, ◌↔◌, ◌≡◌, refl, ltb}
use mathlib.Core.List.{List, []}
use Rattle.std.proofs.Common.{inl, inr, ⊎_elim, ◌∙◌, mul-le-mul_right, mod-lt, div-add-mod', div-lt_iff_lt-mul, mul-zero, mul_comm, arith}
use Rattle.std.proofs.Math.Logic.{by_cases}
use Rattle.std.proofs.Math.Path.{sym, ap}
use Prim.Native.Nat.{ℕ, zero, suc, ◌+◌, ◌-◌, ◌*◌, ◌/◌, ◌%◌, ◌≤◌, ◌<◌}
use Rattle.std.proofs.Math.Decide.{dec_lt, ℕ_discrete}
use Rattle.std.proofs.Math.Nat.{mul_assoc, add-mul}
use Rattle.std.proofs.Math.Arith.{digits_lt, digits_div, digits_mod}
use Rattle.std.proofs.Math.ListN.{length, get_or, get_or-eq_default}
use borrow.Author.Tests.{ltb-true, ltb-false}
use Rattle.mask.specs.LogicLaws.{clash, refute, cond_cases}
use Rattle.mask.specs.Bounded.{first}
use Rattle.mask.specs.BoundedLaws.{first_has, first_before}
use Rattle.mask.specs.Tables.{table}
use Rattle.mask.specs.TablesLaws.{table_length, table_at}
use Rattle.machine.specs.declared.Pair.{Pair}
use Rattle.machine.specs.Machines.{matched, n_c, n_a, sets_c, sets_a, pairs}
use Rattle.machine.specs.WellFormedLaws.{WellPair, ranks_small}
use Rattle.machine.specs.Game.{mem, goals, level, x_set, levels, family}
use Rattle.machine.specs.Ranks.{tower, rank_in, rank, rank_table, solver_table}
use Rattle.machine.specs.Table.{blank, entry_index, entry, entries, IsTable}
use Rattle.theory.specs.Statements.{IsFirst, IsPlace, TableHoldsRanks}
use Rattle.theory.specs.GameLaws.{goal, none_empty, level_zero}
use Rattle.theory.specs.FamilyLaws.{goals_at, family_is}
use Rattle.theory.specs.TowerLaws.{x_is, level_x, levels_x, x_levels, tower_length, tower_at}

-- places are in the order of l, then k
places_order : (m l k l' k' : ℕ) → k < m → k' < m → l * m + k ≤ l' * m + k' → (l < l') ⊎ ((l ≡ l') × (k ≤ k'))
places_order m l k l' k' hk hk' h = by_cases (dec_lt l l') inl (λ g. inr (rest g (ℕ_discrete l l')))
  where
    rest : ¬ (l < l') → Dec (l ≡ l') → (l ≡ l') × (k ≤ k')
    rest g (yes e) = (e, omega (arith, rw e at h))
    rest g (no e) = let more : suc l' * m ≤ l * m = mul-le-mul_right m (omega arith) in absurd (omega arith)

-- a product that is above some number has no factor 0
factor_low : (m n i : ℕ) → i < m * n → 0 < n
factor_low m n i h = by_cases (dec_lt 0 n) (λ l. l) (λ l. let z : n ≡ 0 = omega arith in absurd (omega (arith, rw (z, mul-zero) at h)))

module _ (p : Pair) where
  -- how a rank came about: a goal, a place in the tower, or neither
  pub data Ranked (G : List ℕ) (c a r : ℕ) : Type 0 where
    is_goal : mem p G c a ≡ true → r ≡ 0 → Ranked G c a r
    is_placed : (l k : ℕ) → mem p G c a ≡ false → IsPlace p G c a r l k → Ranked G c a r
    is_outside : mem p G c a ≡ false → ((l k : ℕ) → l < pairs p → k < sets_c p → mem p (x_set p G (suc l) k) c a ≡ false) → r ≡ blank
        → Ranked G c a r

  module _ (G : List ℕ) (c a : ℕ) where
    -- the pair is in the set at a place of the tower
    has : ℕ → Bool
    has i = mem p (get_or (tower p G) i []) c a

    has_at : (l k : ℕ) → l < pairs p → k < sets_c p → has (l * sets_c p + k) ≡ mem p (x_set p G (suc l) k) c a
    unfolding has
    has_at l k hl hk = ap (λ (S : List ℕ). mem p S c a) (tower_at p G l k hl hk)

    -- the first place that has the pair, as l and k
    found : (i : ℕ) → i < pairs p * sets_c p → has i ≡ true → ((e : ℕ) → e < i → has e ≡ false)
        → (l : ℕ) × (k : ℕ) × IsPlace p G c a (suc i) l k
    found i hi t b = (
      suc l,
      k,
      record {
        l_low = omega arith;
        l_high = hl;
        k_high = hk;
        is_r = let e : suc l - 1 ≡ l = omega arith in rw e (omega (arith, whole));
        is_in = sym (has_at l k hl hk) ∙ rw whole t;
        first = before;
      },
    )
      where
        pos : 0 < sets_c p
        pos = factor_low (pairs p) (sets_c p) i hi

        l : ℕ
        l = i / sets_c p

        k : ℕ
        k = i % sets_c p

        whole : l * sets_c p + k ≡ i
        whole = div-add-mod' i (sets_c p)

        hl : l < pairs p
        hl = (div-lt_iff_lt-mul pos).1 hi

        hk : k < sets_c p
        hk = mod-lt i pos

        up : (l' k' : ℕ) → (l < l') ⊎ ((l ≡ l') × (k ≤ k')) → (suc l < suc l') ⊎ ((suc l ≡ suc l') × (k ≤ k'))
        up l' k' (inl h) = inl (omega arith)
        up l' k' (inr h) = inr (ap suc h.0, h.1)

        before : (l' k' : ℕ) → 0 < l' → k' < sets_c p → mem p (x_set p G l' k') c a ≡ true → (suc l < l') ⊎ ((suc l ≡ l') × (k ≤ k'))
        before zero k' pos' hk' u = absurd (omega arith)
        before (suc l') k' pos' hk' u = by_cases (dec_lt l' (pairs p))
            (λ h. by_cases (dec_lt (l' * sets_c p + k') i)
            (λ e. absurd (clash (b _ e) (has_at l' k' h hk' ∙ u)))
            (λ e. up l' k' (places_order (sets_c p) l k l' k' hk hk' (omega (arith, whole)))))
            (λ h. inl (omega (arith, hl)))

    pub ranked : Ranked G c a (rank_in p G (tower p G) c a)
    unfolding rank_in has
    ranked =
        let N : ℕ = length (tower p G) in
        let i : ℕ = first N has in
        let long : N ≡ pairs p * sets_c p = tower_length p G in
        cond_cases (mem p G c a) (λ r. Ranked G c a r) 0 (cond (ltb i N) (suc i) blank)
        (λ t. is_goal t refl)
        (λ t. cond_cases (ltb i N) (λ r. Ranked G c a r) (suc i) blank
        (λ u. let q = found i (omega (arith, ltb-true i N u)) (first_has N has (ltb-true i N u)) (first_before N has) in is_placed q.0 q.1 t q.2)
        (λ u. is_outside t (λ l k hl hk.
        sym (has_at l k hl hk) ∙ first_before N has (l * sets_c p + k) (omega (arith, ltb-false i N u, digits_lt hl hk))) refl))

  -- the first for which one thing holds is the first for which another does, where the two are the same
  pub first_same : {In Out : ℕ → ℕ → Type 0} {r l k : ℕ} → ((l k : ℕ) → 0 < l → In l k ↔ Out l k) → IsFirst p In r l k → IsFirst p Out r l k
  first_same h q = record {
    l_low = q.l_low;
    l_high = q.l_high;
    k_high = q.k_high;
    is_r = q.is_r;
    is_in = (h _ _ q.l_low).0 q.is_in;
    first = λ l' k' pos hk u. q.first l' k' pos hk ((h l' k' pos).1 u);
  }

  -- "Ranks are at most m × P."
  pub place_bounded : {In : ℕ → ℕ → Type 0} {r l k : ℕ} → IsFirst p In r l k → r ≤ sets_c p * pairs p
  place_bounded {l} q =
      let h : suc (l - 1) * sets_c p ≤ pairs p * sets_c p = mul-le-mul_right (sets_c p) (omega (arith, q.l_low, q.l_high)) in
      omega (arith, q.is_r, q.k_high, mul_comm (pairs p) (sets_c p))

  module _ {G : List ℕ} {c a r : ℕ} where
    pub goal_zero : Ranked G c a r → (r ≡ 0) ↔ (mem p G c a ≡ true)
    goal_zero (is_goal t e) = (λ z. t, λ u. e)
    goal_zero (is_placed l k t q) = (λ z. absurd (omega (arith, q.is_r)), λ u. absurd (clash t u))
    goal_zero (is_outside t h e) = (λ z. absurd (omega arith), λ u. absurd (clash t u))

    pub rank_bounded : Ranked G c a r → (r ≡ blank) ⊎ (r ≤ sets_c p * pairs p)
    rank_bounded (is_goal t e) = inr (omega arith)
    rank_bounded (is_placed l k t q) = inr (place_bounded q)
    rank_bounded (is_outside t h e) = inl e

    -- a pair of X(l, k) has no later rank
    pub rank_le : Ranked G c a r → (l k : ℕ) → l < pairs p → k < sets_c p → mem p (x_set p G (suc l) k) c a ≡ true → r ≤ l * sets_c p + k + 1
    rank_le (is_goal t e) l k hl hk u = omega arith
    rank_le (is_placed l' k' t q) l k hl hk u = ⊎_elim
        (λ e. let h : suc (l' - 1) * sets_c p ≤ l * sets_c p = mul-le-mul_right (sets_c p) (omega (arith, q.l_low)) in omega (arith, q.is_r, q.k_high))
        (λ e. let h : l' - 1 ≡ l = omega (arith, e.0) in omega (arith, rw h at q.is_r, e.1))
        (q.first (suc l) k (omega arith) hk u)
    rank_le (is_outside t h e) l k hl hk u = absurd (clash (h l k hl hk) u)

    -- nor has a pair of level l
    pub level_rank : c < n_c p → a < n_a p → Ranked G c a r → (l : ℕ) → l ≤ pairs p → mem p (level p G l) c a ≡ true → r ≤ l * sets_c p
    level_rank hc ha q zero hl t = absurd (none_empty p c a hc ha (rw (level_zero p G) at t))
    level_rank hc ha q (suc l) hl t =
        let u = level_x p G l c a hc ha t in
        omega (arith, u.1, rank_le q l u.0 hl u.1 u.2)

    -- blank, exactly the pairs outside the levels
    pub covered_levels : WellPair p → c < n_c p → a < n_a p → (mem p G c a ≡ true → matched p c a ≡ true) → Ranked G c a r → (r ≡ blank → ⊥)
        → mem p (levels p G) c a ≡ true
    covered_levels w hc ha m (is_goal t e) h =
        x_levels p G 0 0 c a w.concrete.sets_low hc ha ((x_is p G 0 0).of c a hc ha (m t) (goal t))
    covered_levels w hc ha m (is_placed l k t q) h =
        let e : l ≡ suc (l - 1) = omega (arith, q.l_low) in
        x_levels p G (l - 1) k c a q.k_high hc ha (rw e at q.is_in)
    covered_levels w hc ha m (is_outside t o e) h = absurd (h e)

    pub levels_covered : WellPair p → c < n_c p → a < n_a p → Ranked G c a r → mem p (levels p G) c a ≡ true → r ≡ blank → ⊥
    levels_covered w hc ha q t e =
        let u = levels_x p G c a hc ha t in
        omega (arith, rank_le q u.0 u.1 u.2 u.3 u.4, digits_lt u.2 u.3, mul_comm (pairs p) (sets_c p), ranks_small p w)

    -- no goal, and among the levels: a place
    pub rank_placed : c < n_c p → a < n_a p → mem p G c a ≡ false → mem p (levels p G) c a ≡ true → Ranked G c a r
        → (l : ℕ) × (k : ℕ) × IsPlace p G c a r l k
    rank_placed hc ha g t (is_goal u e) = absurd (clash g u)
    rank_placed hc ha g t (is_placed l k u q) = (l, k, q)
    rank_placed hc ha g t (is_outside u o e) =
        let q = levels_x p G c a hc ha t in absurd (clash (o q.0 q.1 q.2 q.3) q.4)

  -- the index of an entry: its section, then its place among the section's pairs
  index_split : (j c a : ℕ) → entry_index (n_c p) (n_a p) j c a ≡ j * pairs p + (c * n_a p + a)
  unfolding entry_index
  index_split j c a = omega (arith, add-mul (j * n_c p) c (n_a p), mul_assoc j (n_c p) (n_a p))

  column : (j c a : ℕ) → a < n_a p → entry_index (n_c p) (n_a p) j c a % n_a p ≡ a
  unfolding entry_index
  column j c a ha = digits_mod (j * n_c p + c) ha

  -- the ranks over any family of sets, as a table: n × P entries, each blank or at most m × P
  module _ (Z : List (List ℕ)) where
    pub ranks_at : (j c a : ℕ) → j < sets_a p → c < n_c p → a < n_a p
        → entry p (rank_table p Z) j c a ≡ rank_in p (goals p Z j) (tower p (goals p Z j)) c a
    unfolding entry rank_table
    ranks_at j c a hj hc ha =
        let e : ℕ = entry_index (n_c p) (n_a p) j c a in
        let hq : c * n_a p + a < pairs p = digits_lt hc ha in
        let split : e ≡ j * pairs p + (c * n_a p + a) = index_split j c a in
        let sec : e / pairs p ≡ j = rw split (digits_div j hq) in
        let row : e % pairs p / n_a p ≡ c = rw (split, digits_mod j hq) (digits_div c ha) in
        let Gs : List (List ℕ) = table (sets_a p) (goals p Z) in
        let G : get_or Gs j [] ≡ goals p Z j = table_at (sets_a p) (goals p Z) j [] hj in
        table_at (entries p) _ e 0 (rw split (digits_lt hj hq))
        ∙ rw (sec, row, column j c a ha, table_at (sets_a p) (λ i. tower p (get_or Gs i [])) j [] hj, G)

    pub ranks_entries : length (rank_table p Z) ≡ entries p
    unfolding rank_table
    ranks_entries = table_length (entries p) _

    ranks_bounded : (e : ℕ) → e < entries p → (get_or (rank_table p Z) e 0 ≡ blank) ⊎ (get_or (rank_table p Z) e 0 ≤ sets_c p * pairs p)
    unfolding rank_table
    ranks_bounded e l =
        let sec : e / pairs p < sets_a p = (div-lt_iff_lt-mul (factor_low _ _ e l)).1 l in
        rw (table_at {A = ℕ} (entries p) _ e 0 l, table_at {A = List (List ℕ)} (sets_a p) _ (e / pairs p) [] sec) (rank_bounded (ranked _ _ _))

  -- the solver's table is the case of the largest family
  pub table_rank : TableHoldsRanks p
  unfolding solver_table rank
  table_rank = ranks_at (family p)

  pub table_entries : length (solver_table p) ≡ entries p
  unfolding solver_table
  table_entries = ranks_entries (family p)

  table_bounded : (e : ℕ) → e < entries p → (get_or (solver_table p) e 0 ≡ blank) ⊎ (get_or (solver_table p) e 0 ≤ sets_c p * pairs p)
  unfolding solver_table
  table_bounded = ranks_bounded (family p)

  -- it is a table of its machines
  pub table_is : WellPair p → IsTable p (solver_table p)
  table_is w = (
    table_entries,
    λ e. by_cases (dec_lt e (entries p))
        (λ l. ⊎_elim (λ b. omega arith) (λ h. omega (arith, ranks_small p w)) (table_bounded e l))
        (λ l. rw (get_or-eq_default (solver_table p) 0 {n = e} (omega (arith, table_entries))) (omega arith)),
  )

  -- ---- the ranks of a section
  pub section_ranked_lem : (j c a : ℕ) → Ranked (goals p (family p) j) c a (rank p j c a)
  unfolding rank
  section_ranked_lem j c a = ranked (goals p (family p) j) c a

  -- not blank, exactly the pairs of the family
  pub rank_covered : WellPair p → (j c a : ℕ) → j < sets_a p → c < n_c p → a < n_a p → (rank p j c a ≡ blank → ⊥) ↔ (mem p (get_or (family p) j []) c a ≡ true)
  rank_covered w j c a hj hc ha = (
    λ e. (family_is p).of j hj c a hc ha (covered_levels w hc ha (λ u. (goals_at p (family p) j c a hc ha u).0) (section_ranked_lem j c a) e),
    λ t. levels_covered w hc ha (section_ranked_lem j c a) ((family_is p).at j hj c a hc ha t),
  )

  pub rank_blank : WellPair p → (j c a : ℕ) → j < sets_a p → c < n_c p → a < n_a p → (rank p j c a ≡ blank) ↔ (mem p (get_or (family p) j []) c a ≡ false)
  rank_blank w j c a hj hc ha = (
    λ e. refute _ (λ t. (rank_covered w j c a hj hc ha).1 t e),
    λ t. by_cases (ℕ_discrete (rank p j c a) blank) (λ e. e) (λ e. absurd (clash t ((rank_covered w j c a hj hc ha).0 e))),
  )
