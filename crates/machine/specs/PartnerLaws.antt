-- Laws of the search for a partner of least key: what it names, and what one turn of a walk does to the best state so far.
use Rattle.std.specs.Prelude.{Bool, cond, ◌⊎◌, ◌≡◌, List, ltb, leb, length, get_or, None, Option, Some, ℕ}
use Rattle.std.proofs.Math.Bool.{true, false}
use Rattle.std.proofs.Math.Logic.{inl, inr, ⊎_elim, by_cases}
use Rattle.std.proofs.Math.Path.{refl, sym, ap}
use Rattle.std.proofs.Common.{subst, ◌∙◌}
use Prim.Native.Nat.{ℕ, zero, suc, ◌+◌, ◌^◌, ◌≤◌, ◌<◌, zero-le}
use Rattle.std.proofs.Math.Decide.{dec_lt, ℕ_discrete}
use native.Mathlib.Omega.{arith}
use Rattle.std.specs.Int.Bits.{bit_and}
use Rattle.std.proofs.lemmas.Nat.{and_le_l}
use borrow.Author.Tests.{ltb-true, ltb-false, lt-ltb, le-ltb, leb-true, le-leb}
use Rattle.mask.specs.Logic.{and}
use Rattle.mask.specs.LogicLaws.{dec, clash, refute, both, below_suc, and_l, and_r, and_i, and_true_l, and_false_l, and_false_r}
use Rattle.mask.specs.Bits.{has_bit, lowest_of, rest_of}
use Rattle.mask.specs.BitsLaws.{has_and, has_none, lowest_set, lowest_lt, lowest_least}
use Rattle.mask.specs.Bounded.{some, some_in}
use Rattle.mask.specs.BoundedLaws.{some_of, some_none}
use Rattle.mask.specs.WalkLaws.{rest_above, rest_has, rest_keeps, rest_small}
use Rattle.machine.specs.Step.{better, least, partner, alike, in_row, found, state_of}
use Rattle.machine.specs.SingleStep.{Candidate, Best}

-- ---- the least of the numbers below n
-- a has the least key of the numbers below n that pass, and is the lowest of these
pub record Least (n : ℕ) (p : ℕ → Bool) (key : ℕ → ℕ) (a : ℕ) : Type 0 where
  pub below : a < n
  pub passes : p a ≡ true
  pub keyed : (i : ℕ) → i < n → p i ≡ true → key a ≤ key i
  pub first : (i : ℕ) → i < a → p i ≡ true → key a < key i

module _ (p : ℕ → Bool) (key : ℕ → ℕ) where
  pub least_miss : (n : ℕ) → p n ≡ false → least (suc n) p key ≡ least n p key
  unfolding least
  least_miss n e = rw (and_false_l _ e)

  pub least_step : (n : ℕ) (best : (Option ℕ)) → least n p key ≡ best → p n ≡ true → least (suc n) p key ≡ cond (better key n best) (Some n) best
  unfolding least
  least_step n best e t = rw (e, and_true_l _ t)

  -- what does not pass makes no difference
  pub least_skip : (i j : ℕ) → i ≤ j → ((k : ℕ) → i ≤ k → k < j → p k ≡ false) → least j p key ≡ least i p key
  least_skip i zero h b = ap (λ (n : ℕ). least n p key) (omega arith)
  least_skip i (suc j) h b =
      by_cases (ℕ_discrete (suc j) i) (λ e. ap (λ (n : ℕ). least n p key) e)
      (λ d. least_miss j (b j (omega arith) (omega arith)) ∙ least_skip i j (omega arith) (λ k l q. b k l (omega arith)))

  abbrev Named : ℕ → Type 0
  Named n = (a : ℕ) × (least n p key ≡ Some a) × Least n p key a

  abbrev Unnamed : ℕ → Type 0
  Unnamed n = (least n p key ≡ None) × ((i : ℕ) → i < n → p i ≡ false)

  -- the next number takes the place of the least one, or leaves it
  least_take : (n a : ℕ) → Least n p key a → p n ≡ true → key n < key a → Least (suc n) p key n
  least_take n a l t k = record {
    below = omega arith;
    passes = t;
    keyed = below_suc n (λ i. p i ≡ true → key n ≤ key i) (λ i h e. omega (arith, l.keyed i h e)) (λ e. omega arith);
    first = λ i h e. omega (arith, l.keyed i h e);
  }

  least_keep : (n a : ℕ) → Least n p key a → (p n ≡ true → key a ≤ key n) → Least (suc n) p key a
  least_keep n a l k = record {
    below = omega (arith, l.below);
    passes = l.passes;
    keyed = below_suc n (λ i. p i ≡ true → key a ≤ key i) l.keyed k;
    first = l.first;
  }

  least_only : (n : ℕ) → ((i : ℕ) → i < n → p i ≡ false) → p n ≡ true → Least (suc n) p key n
  least_only n b t = record {
    below = omega arith;
    passes = t;
    keyed = below_suc n (λ i. p i ≡ true → key n ≤ key i) (λ i h e. absurd (clash (b i h) e)) (λ e. omega arith);
    first = λ i h e. absurd (clash (b i h) e);
  }

  -- either a least one is named, or nobody passes
  pub least_view : (n : ℕ) → Named n ⊎ Unnamed n
  unfolding least better
  least_view zero = inr (refl, λ i h. absurd (omega arith))
  least_view (suc n) = ⊎_elim (hit (least_view n)) (miss (least_view n)) (dec (p n))
    where
      hit : Named n ⊎ Unnamed n → p n ≡ true → Named (suc n) ⊎ Unnamed (suc n)
      hit (inl (a, e, l)) t =
          ⊎_elim (λ u. inl (n, least_step n (Some a) e t ∙ rw u, least_take n a l t (ltb-true _ _ u)))
          (λ u. inl (a, least_step n (Some a) e t ∙ rw u, least_keep n a l (λ v. ltb-false _ _ u)))
          (dec (ltb (key n) (key a)))
      hit (inr (e, b)) t = inl (n, least_step n None e t, least_only n b t)

      miss : Named n ⊎ Unnamed n → p n ≡ false → Named (suc n) ⊎ Unnamed (suc n)
      miss (inl (a, e, l)) t = inl (a, least_miss n t ∙ e, least_keep n a l (λ v. absurd (clash t v)))
      miss (inr (e, b)) t = inr (least_miss n t ∙ e, below_suc n (λ i. p i ≡ false) b t)

  -- which number is named is told by what it is
  pub least_is : (n a : ℕ) → Least n p key a → least n p key ≡ Some a
  least_is n a l = ⊎_elim (λ v. v.1 ∙ ap Some (same v.0 v.2)) (λ v. absurd (clash (v.1 a l.below) l.passes)) (least_view n)
    where
      same : (b : ℕ) → Least n p key b → b ≡ a
      same b m =
          by_cases (dec_lt a b) (λ q. absurd (omega (arith, m.first a q l.passes, l.keyed b m.below m.passes)))
          (λ q. by_cases (dec_lt b a) (λ r. absurd (omega (arith, l.first b r m.passes, m.keyed a l.below l.passes))) (λ r. omega arith))

  pub least_none : (n : ℕ) → ((i : ℕ) → i < n → p i ≡ false) → least n p key ≡ None
  least_none n b = ⊎_elim (λ v. absurd (clash (b v.0 v.2.below) v.2.passes)) (λ v. v.0) (least_view n)

  pub least_found : (n : ℕ) → found (least n p key) ≡ some n p
  unfolding found
  least_found n =
      ⊎_elim (λ v. ap found v.1 ∙ sym (some_of n p v.0 v.2.below v.2.passes)) (λ v. ap found v.0 ∙ sym (some_none n p v.1)) (least_view n)

pub least_same : (n : ℕ) (p q : ℕ → Bool) (key rank : ℕ → ℕ) → ((i : ℕ) → i < n → p i ≡ q i)
    → ((i : ℕ) → i < n → p i ≡ true → key i ≡ rank i) → least n p key ≡ least n q rank
least_same n p q key rank h k =
    ⊎_elim (λ v. v.1 ∙ sym (least_is q rank n v.0 (carry v.0 v.2))) (λ v. v.0 ∙ sym (least_none q rank n (λ i l. sym (h i l) ∙ v.1 i l)))
    (least_view p key n)
  where
    carry : (a : ℕ) → Least n p key a → Least n q rank a
    carry a l =
        let e : key a ≡ rank a = k a l.below l.passes in
        record {
          below = l.below;
          passes = sym (h a l.below) ∙ l.passes;
          keyed = λ i b t. let u : p i ≡ true = h i b ∙ t in omega (arith, l.keyed i b u, k i b u);
          first = λ i b t.
              let c : i < n = omega (arith, l.below) in
              let u : p i ≡ true = h i c ∙ t in omega (arith, l.first i b u, k i c u);
        }

-- ---- the partner
-- the test of a candidate
abbrev pub candidate : ℕ → (ℕ → Bool) → ℕ → Bool
candidate moves S a = and (has_bit moves a) (S a)

module _ (moves : ℕ) (S : ℕ → Bool) (key : ℕ → ℕ) where
  candidate_at : (i : ℕ) → i < 64 → candidate moves S i ≡ true → Candidate moves S i
  candidate_at i h t = record { below = h; moved = and_l _ _ t; inside = and_r _ _ t }

  best_least : (a : ℕ) → Best moves S key a → Least 64 (candidate moves S) key a
  best_least a b = record {
    below = b.candidate.below;
    passes = and_i b.candidate.moved b.candidate.inside;
    keyed = λ i h t. b.least i (candidate_at i h t);
    first = λ i h t. b.lowest i h (candidate_at i (omega (arith, b.candidate.below)) t);
  }

  least_best : (a : ℕ) → Least 64 (candidate moves S) key a → Best moves S key a
  least_best a l = record {
    candidate = candidate_at a l.below l.passes;
    least = λ i c. l.keyed i c.below (and_i c.moved c.inside);
    lowest = λ i h c. l.first i h (and_i c.moved c.inside);
  }

  pub partner_is : (a : ℕ) → Best moves S key a → partner moves S key ≡ Some a
  unfolding partner
  partner_is a b = least_is (candidate moves S) key 64 a (best_least a b)

  pub partner_none : ((i : ℕ) → i < 64 → has_bit moves i ≡ true → S i ≡ false) → partner moves S key ≡ None
  unfolding partner
  partner_none h = least_none (candidate moves S) key 64 (λ i l. ⊎_elim (λ e. and_false_r _ (h i l e)) (λ e. and_false_l _ e) (dec (has_bit moves i)))

  -- there is a partner exactly if some state of the moves is in the set
  pub partner_found : found (partner moves S key) ≡ some_in 64 moves S
  unfolding partner some_in
  partner_found = least_found (candidate moves S) key 64

  -- either the best one is named, or no state of the moves is in the set
  pub partner_view : ((a : ℕ) × (partner moves S key ≡ Some a) × Best moves S key a) ⊎ ((partner moves S key ≡ None) × (some_in 64 moves S ≡ false))
  unfolding partner some_in
  partner_view =
      ⊎_elim (λ v. inl (v.0, v.1, least_best v.0 v.2)) (λ v. inr (v.0, some_none 64 (candidate moves S) v.1)) (least_view (candidate moves S) key 64)

  pub partner_at : (a : ℕ) → partner moves S key ≡ Some a → Best moves S key a
  partner_at a e = ⊎_elim
      (λ v. let z : v.0 ≡ a = cc in subst (Best moves S key) z v.2)
      (λ v. let z : ◌≡◌ {A = ℕ} 0 1 = cc in absurd (omega arith)) partner_view

-- a partner that there is has its number
pub found_state : (b : (Option ℕ)) → found b ≡ true → b ≡ Some (state_of b)
unfolding found
found_state (Some a) t = refl
found_state None t = absurd (clash refl t)

-- the same candidates with the same keys have the same partner
pub partner_same : (m n : ℕ) (S R : ℕ → Bool) (key rank : ℕ → ℕ) → ((i : ℕ) → i < 64 → candidate m S i ≡ candidate n R i)
    → ((i : ℕ) → i < 64 → candidate m S i ≡ true → key i ≡ rank i) → partner m S key ≡ partner n R rank
unfolding partner
partner_same m n S R key rank h k = least_same 64 (candidate m S) (candidate n R) key rank h k

pub partner_cong : (m n : ℕ) (S R : ℕ → Bool) (key : ℕ → ℕ) → ((i : ℕ) → i < 64 → candidate m S i ≡ candidate n R i)
    → partner m S key ≡ partner n R key
partner_cong m n S R key h = partner_same m n S R key key h (λ i l t. refl)

-- ---- a set that is a mask
module _ (moves row : ℕ) (h : moves < 2 ^ 64) where
  small : bit_and moves row < 2 ^ 64
  small = omega (arith, and_le_l moves row)

  pub partner_lowest : (bit_and moves row ≡ 0 → ⊥) → partner moves (has_bit row) alike ≡ Some (lowest_of 64 (bit_and moves row))
  partner_lowest d =
      let m = bit_and moves row in
      let a = lowest_of 64 m in
      let p : 0 < m = omega arith in
      let t : and (has_bit moves a) (has_bit row a) ≡ true = sym (has_and a moves row) ∙ lowest_set 64 m p small in
      partner_is moves (has_bit row) alike a (record {
        candidate = candidate_at moves (has_bit row) alike a (lowest_lt 64 m p small) t;
        least = λ i c. omega arith;
        lowest = λ i l c. absurd (clash (lowest_least 64 m i l) (has_and i moves row ∙ and_i c.moved c.inside));
      })

  pub partner_nobody : bit_and moves row ≡ 0 → partner moves (has_bit row) alike ≡ None
  partner_nobody e =
      partner_none moves (has_bit row) alike
      (λ i l t. refute (has_bit row i) (λ u. clash (has_none i) (ap (λ (m : ℕ). has_bit m i) (sym e) ∙ has_and i moves row ∙ and_i t u)))

-- ---- a set that is given by its entries: what is looked for among the matched moves
unfoldable pub within : List ℕ → ℕ → ℕ → Bool
within row bound a = and (ltb a (length row)) (leb (get_or row a 0) bound)

pub within_hit : (row : List ℕ) (bound a : ℕ) → a < length row → get_or row a 0 ≤ bound → within row bound a ≡ true
unfolding within
within_hit row bound a h k = and_i (lt-ltb a (length row) h) (le-leb (get_or row a 0) bound k)

pub within_index : (row : List ℕ) (bound a : ℕ) → within row bound a ≡ true → a < length row
unfolding within
within_index row bound a t = ltb-true a (length row) (and_l _ _ t)

pub within_entry : (row : List ℕ) (bound a : ℕ) → within row bound a ≡ true → get_or row a 0 ≤ bound
unfolding within
within_entry row bound a t = leb-true (get_or row a 0) bound (and_r _ _ t)

pub within_miss : (row : List ℕ) (bound a : ℕ) → (a < length row → bound < get_or row a 0) → within row bound a ≡ false
within_miss row bound a h = refute _ (λ t. omega (arith, h (within_index row bound a t), within_entry row bound a t))

module _ (moves matched : ℕ) (row : List ℕ) (bound : ℕ) where
  in_row_lem : (a : ℕ) → and (has_bit moves a) (in_row matched row bound a) ≡ and (has_bit (bit_and moves matched) a) (within row bound a)
  unfolding in_row within and
  in_row_lem a = rw has_and (go (has_bit moves a))
    where
      go : (b : Bool) → and b (and (has_bit matched a) (within row bound a)) ≡ and (and b (has_bit matched a)) (within row bound a)
      go true = refl
      go false = refl

  pub partner_row : (key : ℕ → ℕ) → partner moves (in_row matched row bound) key ≡ partner (bit_and moves matched) (within row bound) key
  partner_row key = partner_cong moves (bit_and moves matched) (in_row matched row bound) (within row bound) key (λ i l. in_row_lem i)

  pub found_row : (key : ℕ → ℕ) → found (partner moves (in_row matched row bound) key) ≡ some_in 64 (bit_and moves matched) (within row bound)
  found_row key = ap found (partner_row key) ∙ partner_found (bit_and moves matched) (within row bound) key

-- ---- a walk that keeps the best state so far
-- what is left of the moves are the states from `upto` on, and the best is that of the states below
pub record Passed (S : ℕ → Bool) (key : ℕ → ℕ) (moves m : ℕ) (best : (Option ℕ)) : Type 0 where
  pub small : m < 2 ^ 64
  pub upto : ℕ
  pub upto_le : upto ≤ 64
  pub best_is : best ≡ least upto (candidate moves S) key
  pub left : (k : ℕ) → has_bit m k ≡ and (leb upto k) (has_bit moves k)

module _ (S : ℕ → Bool) (key : ℕ → ℕ) (moves : ℕ) where
  pub passed_start : moves < 2 ^ 64 → Passed S key moves moves None
  unfolding least
  passed_start h = record {
    small = h;
    upto = 0;
    upto_le = omega arith;
    best_is = refl;
    left = λ k. sym (and_true_l _ (le-leb 0 k zero-le));
  }

  module _ (m : ℕ) (best : (Option ℕ)) (a : ℕ) (p : 0 < m) (low : a ≡ lowest_of 64 m) (d : Passed S key moves m best) where
    here : has_bit m a ≡ true
    here = ap (has_bit m) low ∙ lowest_set 64 m p d.small

    above : d.upto ≤ a
    above = leb-true _ _ (and_l _ _ (sym (d.left a) ∙ here))

    -- no state that passes was left out
    skipped : least a (candidate moves S) key ≡ best
    skipped =
        least_skip (candidate moves S) key d.upto a above
        (λ k l q. and_false_l _ (refute (has_bit moves k) (λ t. clash (lowest_least 64 m k (omega arith)) (d.left k ∙ and_i (le-leb d.upto k l) t))))
        ∙ sym d.best_is

    rest_left : (k : ℕ) → has_bit (rest_of m) k ≡ and (leb (suc a) k) (has_bit moves k)
    rest_left k = both _ _
        (λ t. and_i (le-leb (suc a) k (omega (arith, rest_above 64 m p d.small k t))) (and_r _ _ (sym (d.left k) ∙ rest_has 64 m p d.small k t)))
        (λ t. let l : suc a ≤ k = leb-true (suc a) k (and_l _ _ t) in
        rest_keeps 64 m p d.small k (d.left k ∙ and_i (le-leb d.upto k (omega (arith, above))) (and_r _ _ t)) (λ e. omega arith))

    pub passed_turn : Passed S key moves (rest_of m) (cond (and (S a) (better key a best)) (Some a) best)
    unfolding least
    passed_turn = record {
      small = rest_small 64 m p d.small;
      upto = suc a;
      upto_le = omega (arith, lowest_lt 64 m p d.small);
      best_is = rw (skipped, and_true_l (S a) (and_r _ _ (sym (d.left a) ∙ here)));
      left = rest_left;
    }

  pub passed_done : (best : (Option ℕ)) → Passed S key moves 0 best → best ≡ partner moves S key
  unfolding partner
  passed_done best d =
      d.best_is
      ∙ sym (least_skip (candidate moves S) key d.upto 64 d.upto_le
      (λ k l q. and_false_l _ (refute (has_bit moves k) (λ t. clash (has_none k) (d.left k ∙ and_i (le-leb d.upto k l) t)))))

-- ---- such a walk over a row of entries
-- what an entry has to be below, to be taken in place of the best so far
unfoldable pub limit_of : (ℕ → ℕ) → ℕ → Option ℕ → ℕ
limit_of key bound (Some b) = key b
limit_of key bound None = bound + 1

pub better_in : (key : ℕ → ℕ) (bound : ℕ) (best : (Option ℕ)) (a : ℕ) → key a < limit_of key bound best → better key a best ≡ true
unfolding limit_of better
better_in key bound (Some b) a h = lt-ltb (key a) (key b) h
better_in key bound None a h = refl

pub better_out : (key : ℕ → ℕ) (bound : ℕ) (best : (Option ℕ)) (a : ℕ) → limit_of key bound best ≤ key a → key a ≤ bound → better key a best ≡ false
unfolding limit_of better
better_out key bound (Some b) a h k = le-ltb (key a) (key b) h
better_out key bound None a h k = absurd (omega arith)

pub record Walked (row : List ℕ) (bound moves m : ℕ) (best : (Option ℕ)) (limit : ℕ) : Type 0 where
  pub passed : Passed (within row bound) (λ a. get_or row a 0) moves m best
  pub limit_is : limit ≡ limit_of (λ a. get_or row a 0) bound best
  pub limit_le : limit ≤ bound + 1

module _ (row : List ℕ) (bound moves : ℕ) where
  abbrev Key : ℕ → ℕ
  Key a = get_or row a 0

  pub walked_start : moves < 2 ^ 64 → Walked row bound moves moves None (bound + 1)
  unfolding limit_of
  walked_start h = record { passed = passed_start (within row bound) Key moves h; limit_is = refl; limit_le = omega arith }

  pub walked_done : (best : (Option ℕ)) (limit : ℕ) → Walked row bound moves 0 best limit → best ≡ partner moves (within row bound) Key
  walked_done best limit d = passed_done (within row bound) Key moves best d.passed

  module _ (m : ℕ) (best : (Option ℕ)) (limit a : ℕ) (p : 0 < m) (low : a ≡ lowest_of 64 m) (d : Walked row bound moves m best limit) where
    pub walked_take : a < length row → Key a < limit → Walked row bound moves (rest_of m) (Some a) (Key a)
    unfolding limit_of
    walked_take h k =
        let t : and (within row bound a) (better Key a best) ≡ true =
        and_i (within_hit row bound a h (omega (arith, d.limit_le))) (better_in Key bound best a (rw d.limit_is at k)) in
        record {
          passed = rw t at (passed_turn (within row bound) Key moves m best a p low d.passed);
          limit_is = refl;
          limit_le = omega (arith, d.limit_le);
        }

    pub walked_keep : (a < length row → limit ≤ Key a) → Walked row bound moves (rest_of m) best limit
    walked_keep h =
        let t : and (within row bound a) (better Key a best) ≡ false = refute _ (λ u.
        let i : a < length row = within_index row bound a (and_l _ _ u) in
        let l : limit_of Key bound best ≤ Key a = omega (arith, d.limit_is, h i) in
        clash (better_out Key bound best a l (within_entry row bound a (and_l _ _ u))) (and_r _ _ u)) in
        record {
          passed = rw t at (passed_turn (within row bound) Key moves m best a p low d.passed);
          limit_is = d.limit_is;
          limit_le = d.limit_le;
        }

-- among moves to numbers below n only what the set and the keys are there counts
pub partner_below : (moves n : ℕ) (S R : ℕ → Bool) (key rank : ℕ → ℕ) → ((i : ℕ) → i < 64 → has_bit moves i ≡ true → i < n)
    → ((i : ℕ) → i < n → S i ≡ R i) → ((i : ℕ) → i < n → key i ≡ rank i) → partner moves S key ≡ partner moves R rank
partner_below moves n S R key rank moved set keys = partner_same moves moves S R key rank
    (λ i h. ⊎_elim (λ m. ap (and (has_bit moves i)) (set i (moved i h m))) (λ m. and_false_l _ m ∙ sym (and_false_l _ m)) (dec (has_bit moves i)))
    (λ i h t. keys i (moved i h (and_l _ _ t)))
