-- Laws of ranks that are found by brute force: the rule case by case, and what a turn of each loop does.
use Rattle.std.proofs.Math.Bool as B
use Rattle.std.specs.Prelude.{Bool, None, Some, is_some, cond, true, List, ◌++◌, ◌≡◌, drop, eqb, get_or, length, replicate, set, take, Err}
use Rattle.std.proofs.Math.Bool.{false}
use Rattle.std.proofs.Common.{◌∙◌, add-one, ap, lt-ltb, le-ltb}
use Rattle.std.proofs.lemmas.List.{get_or-take}
use Rattle.std.proofs.Math.Decide.{dec_lt}
use Rattle.std.proofs.Math.Logic.{by_cases}
use Rattle.std.proofs.Math.Path.{refl, sym}
use Prim.Native.Nat.{◌+◌, ◌-◌, ◌<◌, ◌≤◌, min, suc, zero, ℕ}
use native.Mathlib.Omega.{arith}
use borrow.Author.Tests.{eq-eqb, le-leb, lt-leb, ne_eqb, not-false, not-true}
use Rattle.mask.specs.Bits.{full_mask}
use Rattle.mask.specs.Bounded.{below}
use Rattle.mask.specs.BoundedLaws.{below_at, below_past, first_le, is_below}
use Rattle.mask.specs.Logic.{and, not}
use Rattle.mask.specs.LogicLaws.{and_false_l, and_false_r, and_i, not_f, not_i}
use Rattle.mask.specs.Tables.{front}
use Rattle.mask.specs.TablesLaws.{table_cong}
use Rattle.mask.specs.FrontLaws.{front_past, front_skip, front_turn}
use Rattle.machine.specs.Machines.{pairs}
use Rattle.machine.specs.Table.{blank}
use Rattle.machine.specs.WellFormed.{is_valid, pair_validity, well_formed}
use Rattle.machine.specs.declared.Pair.{Pair}
use Rattle.machine.specs.declared.Refusal.{Refusal}
use Rattle.brute.specs.Numbers.{numbered_table}
use Rattle.brute.specs.PartLaws.{part_filled}
use Rattle.brute.specs.Ranking.{as_table, closed, largest, largest_set, marked, pair_room, ranked, shown_entry, struck, table_ranked, unkept}

-- ---- one rank is given to a set
module _ (S : List ℕ) (r : ℕ) (R : List ℕ) where
  -- what becomes of entry e
  abbrev pub mark_at : ℕ → ℕ
  mark_at e = cond (and (not (eqb (get_or S e 0) blank)) (eqb (get_or R e 0) blank)) r (get_or R e 0)

  module _ {i : ℕ} {l : List ℕ} (d : l ≡ front i mark_at R) (h : i < length R) {v : List ℕ} where
    pub mark_store : v ≡ set l i r → (get_or S i 0 ≡ blank → ⊥) → get_or l i 0 ≡ blank → v ≡ front (i + 1) mark_at R
    mark_store z t e =
        let b : and (not (eqb (get_or S i 0) blank)) (eqb (get_or R i 0) blank) ≡ true = and_i (not_i (ne_eqb _ _ t)) (eq-eqb _ _ (sym (front_past mark_at R d i (omega arith)) ∙ e)) in
        z ∙ front_turn mark_at R d h (rw b)

    mark_keep : v ≡ l → and (not (eqb (get_or S i 0) blank)) (eqb (get_or R i 0) blank) ≡ false → v ≡ front (i + 1) mark_at R
    mark_keep z b = z ∙ front_skip mark_at R d h (rw b)

    pub mark_outside : v ≡ l → get_or S i 0 ≡ blank → v ≡ front (i + 1) mark_at R
    mark_outside z t = mark_keep z (and_false_l _ (not_f (eq-eqb _ _ t)))

    pub mark_ranked : v ≡ l → (get_or l i 0 ≡ blank → ⊥) → v ≡ front (i + 1) mark_at R
    mark_ranked z n = mark_keep z (and_false_r _ (ne_eqb _ _ (λ e. n (front_past mark_at R d i (omega arith) ∙ e))))

-- the first n ranks
pub mark_done : (S : List ℕ) (r : ℕ) (R : List ℕ) (n : ℕ) {i : ℕ} {l : List ℕ} → n ≤ length R → l ≡ front i (mark_at S r (take n R)) (take n R) → i ≡ length (take n R)
    → l ++ drop n R ≡ marked n S r R
unfolding marked
mark_done S r R n h d e =
    part_filled (mark_at S r (take n R)) R n h d e
    ∙ ap (λ (z : List ℕ). z ++ drop n R)
    (table_cong n _ _ (λ k b. ap (λ (x : ℕ). cond (and (not (eqb (get_or S k 0) blank)) (eqb x blank)) r x) (get_or-take n R k 0 b)))

module _ (p : Pair) (T : List ℕ) (j : ℕ) where
  -- ---- the sets that meet it, and the largest of them
  module _ (R : List ℕ) (i : ℕ) where
    pub unkept_le : (S : List ℕ) → unkept p T j R i S ≤ pairs p
    unfolding unkept
    unkept_le S = first_le (pairs p) _

    -- S is set number x as a table, in which no pair is looked for in vain
    pub closed_is : (x : ℕ) {S : List ℕ} {b : Bool} → S ≡ numbered_table 1 x (pairs p) (replicate 64 blank) → B.not b ≡ is_some (below (pairs p) (unkept p T j R i S)) → b ≡ closed p T j R i x
    unfolding closed as_table
    closed_is x {S} {b} s q =
        let t = q ∙ is_below (pairs p) (unkept p T j R i S) in
        by_cases (dec_lt (unkept p T j R i S) (pairs p))
        (λ l. not-true b (t ∙ lt-ltb _ _ l) ∙ rw (← s) (sym (ne_eqb _ _ (λ e. omega arith))))
        (λ l. let e : unkept p T j R i S ≡ pairs p = omega (arith, unkept_le S) in not-false b (t ∙ le-ltb _ _ (omega arith)) ∙ rw (← s) (sym (eq-eqb _ _ e)))

    pub largest_found : (x : ℕ) → 0 < x → closed p T j R i x ≡ true → largest p T j R i x ≡ x
    unfolding largest
    largest_found zero h t = absurd (omega arith)
    largest_found (suc x) h t = rw t

    pub largest_less : (x : ℕ) → 0 < x → closed p T j R i x ≡ false → largest p T j R i (x - 1) ≡ largest p T j R i x
    unfolding largest
    largest_less zero h t = absurd (omega arith)
    largest_less (suc x) h t = let e : suc x - 1 ≡ x = omega arith in rw (e, t)

    pub largest_none : (x : ℕ) → x ≤ 0 → largest p T j R i x ≡ 0
    unfolding largest
    largest_none zero h = refl
    largest_none (suc x) h = absurd (omega arith)

    -- ---- pairs are struck out: A is what is left in the end
    module _ (S : List ℕ) (n : ℕ) {A : List ℕ} (a : struck p T j R i n S ≡ A) where
      pub struck_none : n ≡ 0 → S ≡ A
      unfolding struck
      struck_none z = rw z at a

      pub struck_done : None ≡ below (pairs p) (unkept p T j R i S) → S ≡ A
      unfolding struck
      struck_done q = sym (still n) ∙ a
        where
          all : unkept p T j R i S ≡ pairs p
          all = omega (arith, below_past (pairs p) _ (sym q), unkept_le S)

          still : (k : ℕ) → struck p T j R i k S ≡ S
          still zero = refl
          still (suc k) = rw (eq-eqb _ _ all)

      pub struck_next : (k e : ℕ) → Some e ≡ below (pairs p) (unkept p T j R i S) → n ≡ suc k → struck p T j R i k (set S e blank) ≡ A
      unfolding struck
      struck_next k e q z = let at = below_at (pairs p) _ (sym q) in go at.0 at.1 (rw z at a)
        where
          go : e ≡ unkept p T j R i S → unkept p T j R i S < pairs p → struck p T j R i (suc k) S ≡ A → struck p T j R i k (set S e blank) ≡ A
          go f l b = rw f (rw (ne_eqb (unkept p T j R i S) (pairs p) (λ y. omega arith)) at b)

    -- ---- few pairs and many
    module _ (S : List ℕ) {A : List ℕ} where
      pub largest_few : {x : ℕ} → pairs p ≤ 12 → x ≡ largest p T j R i (full_mask (min (pairs p) 64)) → A ≡ numbered_table 1 x (pairs p) S → A ≡ largest_set p T j R i S
      unfolding largest_set
      largest_few h e a = a ∙ rw (le-leb (pairs p) 12 h, e)

      pub largest_many : 12 < pairs p → A ≡ struck p T j R i (pairs p) S → A ≡ largest_set p T j R i S
      unfolding largest_set
      largest_many h a = a ∙ rw (lt-leb (pairs p) 12 h)

  -- ---- ranks one after the other
  pub ranked_start : (R : List ℕ) → R ≡ ranked p T j 0 R
  unfolding ranked
  ranked_start R = refl

  pub ranked_step : (R₀ : List ℕ) {R S A : List ℕ} (i : ℕ) → R ≡ ranked p T j i R₀ → S ≡ largest_set p T j R i (replicate pair_room 0) → A ≡ marked (pairs p) S (i + 1) R → A ≡ ranked p T j (i + 1) R₀
  unfolding ranked
  ranked_step R₀ i e f a = rw (a, f, e, add-one)

-- ---- what counts of an entry
module _ (exact : Bool) (e : ℕ) where
  pub shown_all : exact ≡ true → e ≡ shown_entry exact e
  unfolding shown_entry
  shown_all t = rw t

  pub shown_blank : exact ≡ false → e ≡ blank → e ≡ shown_entry exact e
  unfolding shown_entry
  shown_blank t h = rw (t, eq-eqb e blank h) h

  pub shown_covered : exact ≡ false → (e ≡ blank → ⊥) → 0 ≡ shown_entry exact e
  unfolding shown_entry
  shown_covered t h = rw (t, ne_eqb e blank h)

-- ---- the ranks of a table
module _ (p : Pair) (exact : Bool) (T S : List ℕ) where
  pub table_ill : (r : Refusal) → pair_validity p ≡ Err r → table_ranked p exact T S ≡ false
  unfolding table_ranked well_formed is_valid
  table_ill r e = and_false_l _ (rw e)
