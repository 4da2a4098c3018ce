-- A walk takes the lowest state of what is left of a mask, again and again. Shown for any width w: it meets each state of the mask
-- exactly once, in ascending order; it ends; the count falls by one at each turn; and "for every state" and "for some state" are what it decides.
use Rattle.std.specs.Prelude.{Bool, true, false, cond, ◌⊎◌, ◌≡◌, refl, List, [], ◌∷◌, ℕ, zero, suc, ◌+◌, ◌*◌, ◌/◌, ◌%◌, ◌^◌, ◌≤◌, ◌<◌, eqb, length, get_or}
use Rattle.std.proofs.Common.{inl, inr, ⊎_elim, sym, ap, ◌∙◌, pow-suc, arith, eqb-true, eq-eqb, ne_eqb}
use Rattle.std.proofs.Math.Logic.{by_cases}
use Rattle.std.proofs.Math.Decide.{dec_lt, ℕ_discrete}
use Rattle.std.specs.Int.Count.{ones, ones_step}
use Rattle.std.proofs.lemmas.Bool.{eqb-false}
use Rattle.mask.specs.Logic.{not, and, or}
use Rattle.mask.specs.LogicLaws.{dec, clash, refute, both, cond_cases, and_l, and_r, and_i, and_true_l, and_false_l, or_l, or_r, or_e, or_false_l, not_e, not_i, not_or, not_not}
use Rattle.mask.specs.Bits.{has_bit, lowest_of, rest_of}
use Rattle.mask.specs.BitsLaws.{parity, has_even, has_odd, has_suc, has_none, lowest_set, lowest_lt, lowest_least, has_rest, rest_lt}
use Rattle.mask.specs.Bounded.{count, every_in, some_in}
use Rattle.mask.specs.BoundedLaws.{some_in_of, some_in_at, every_in_some, count_cong, count_remove, count_none, count_zero, count_front}

module _ (w m : ℕ) (p : 0 < m) (h : m < 2 ^ w) where
  -- the state that is taken is no longer there, and every other one is
  pub rest_drops : has_bit (rest_of m) (lowest_of w m) ≡ false
  rest_drops = refute _ (λ t. clash (not_e _ (and_r _ _ (sym (has_rest w m (lowest_of w m) p h) ∙ t))) (eq-eqb (lowest_of w m) (lowest_of w m) refl))

  pub rest_has : (i : ℕ) → has_bit (rest_of m) i ≡ true → has_bit m i ≡ true
  rest_has i t = and_l _ _ (sym (has_rest w m i p h) ∙ t)

  pub rest_keeps : (i : ℕ) → has_bit m i ≡ true → (i ≡ lowest_of w m → ⊥) → has_bit (rest_of m) i ≡ true
  rest_keeps i t d = has_rest w m i p h ∙ and_i t (not_i (ne_eqb i (lowest_of w m) d))

  -- what is left lies above the state that is taken: the order ascends
  pub rest_above : (i : ℕ) → has_bit (rest_of m) i ≡ true → lowest_of w m < i
  rest_above i t = go (dec_lt (lowest_of w m) i)
    where
      go : Dec (lowest_of w m < i) → lowest_of w m < i
      go (yes l) = l
      go (no l) = absurd (⊎_elim
          (λ e. clash rest_drops (ap (has_bit (rest_of m)) (sym (eqb-true i (lowest_of w m) e)) ∙ t))
          (λ e. let d : i ≡ lowest_of w m → ⊥ = eqb-false i (lowest_of w m) e in clash (lowest_least w m i (omega arith)) (rest_has i t))
          (dec (eqb i (lowest_of w m))))

  pub rest_small : rest_of m < 2 ^ w
  rest_small = omega (arith, rest_lt m p)

-- "for some state" is what a walk decides
pub some_in_step : (w m : ℕ) (p : ℕ → Bool) → 0 < m → m < 2 ^ w → some_in w m p ≡ or (p (lowest_of w m)) (some_in w (rest_of m) p)
some_in_step w m p h k = both _ _ fwd bwd
  where
    fwd : some_in w m p ≡ true → or (p (lowest_of w m)) (some_in w (rest_of m) p) ≡ true
    fwd e = let r = some_in_at w m p e in ⊎_elim
        (λ t. or_l _ (ap p (sym (eqb-true r.0 (lowest_of w m) t)) ∙ r.3))
        (λ t. or_r _ (some_in_of w (rest_of m) p r.0 r.1 (rest_keeps w m h k r.0 r.2 (eqb-false _ _ t)) r.3))
        (dec (eqb r.0 (lowest_of w m)))

    bwd : or (p (lowest_of w m)) (some_in w (rest_of m) p) ≡ true → some_in w m p ≡ true
    bwd e = ⊎_elim
        (λ t. some_in_of w m p (lowest_of w m) (lowest_lt w m h k) (lowest_set w m h k) t)
        (λ t. let r = some_in_at w (rest_of m) p t in some_in_of w m p r.0 r.1 (rest_has w m h k r.0 r.2) r.3)
        (or_e e)

-- and so is "for every state"
pub every_in_step : (w m : ℕ) (p : ℕ → Bool) → 0 < m → m < 2 ^ w → every_in w m p ≡ and (p (lowest_of w m)) (every_in w (rest_of m) p)
every_in_step w m p h k =
    rw (
      every_in_some w m p,
      every_in_some w (rest_of m) p,
      some_in_step w m (λ i. not (p i)) h k,
      not_or (not (p (lowest_of w m))) (some_in w (rest_of m) (λ i. not (p i))),
      not_not (p (lowest_of w m)),
    )

-- one turn of a walk, as a loop's proof wants it
module _ (w m : ℕ) (p : ℕ → Bool) (i : ℕ) (h : 0 < m) (k : m < 2 ^ w) (low : i ≡ lowest_of w m) where
  pub some_in_hit : p i ≡ true → some_in w m p ≡ true
  some_in_hit e = some_in_step w m p h k ∙ or_l _ (ap p (sym low) ∙ e)

  pub some_in_miss : p i ≡ false → some_in w m p ≡ some_in w (rest_of m) p
  some_in_miss e = some_in_step w m p h k ∙ or_false_l _ (ap p (sym low) ∙ e)

  pub every_in_miss : p i ≡ false → every_in w m p ≡ false
  every_in_miss e = every_in_step w m p h k ∙ and_false_l _ (ap p (sym low) ∙ e)

  pub every_in_hit : p i ≡ true → every_in w m p ≡ every_in w (rest_of m) p
  every_in_hit e = every_in_step w m p h k ∙ and_true_l _ (ap p (sym low) ∙ e)

-- ---- the whole walk
pub count_rest : (w m : ℕ) → 0 < m → m < 2 ^ w → count w (has_bit m) ≡ suc (count w (has_bit (rest_of m)))
count_rest w m p h =
    count_remove w (has_bit m) (has_bit (rest_of m)) (lowest_of w m) (lowest_lt w m p h) (lowest_set w m p h) (rest_drops w m p h)
    (λ k l d. both _ _ (λ t. rest_keeps w m p h k t d) (λ t. rest_has w m p h k t))

-- the ones of a mask are its states
pub ones_count : (w m : ℕ) → m < 2 ^ w → ones m ≡ count w (has_bit m)
unfolding ones
ones_count zero m h = let e : m ≡ 0 = omega arith in rw e (sym (count_zero (has_bit 0)))
ones_count (suc w) m h =
    let k : m < 2 ^ w * 2 = rw pow-suc at h in
    ones_step m ∙ ap (λ (x : ℕ). m % 2 + x) (ones_count w (m / 2) (omega arith) ∙ count_cong w (has_bit (m / 2)) (λ i. has_bit m (suc i)) (λ i l. sym (has_suc m i)))
    ∙ low (parity m) ∙ sym (count_front w (has_bit m))
  where
    low : (m % 2 ≡ 0) ⊎ (m % 2 ≡ 1) → m % 2 + count w (λ i. has_bit m (suc i)) ≡ cond (has_bit m 0) 1 0 + count w (λ i. has_bit m (suc i))
    low (inl e) = rw (has_even m e, e)
    low (inr e) = rw (has_odd m e, e)

-- the states that a walk of n turns takes, in its order
unfoldable pub walk : ℕ → ℕ → ℕ → List ℕ
walk w zero m = []
walk w (suc n) m = let taken = lowest_of w m ∷ walk w n (rest_of m) in cond (eqb m 0) [] taken

-- each state of the mask once, in ascending order
pub record Walked (w m : ℕ) (l : List ℕ) : Type 0 where
  pub states : (k : ℕ) → k < length l → has_bit m (get_or l k 0) ≡ true
  pub ascends : (k : ℕ) → suc k < length l → get_or l k 0 < get_or l (suc k) 0
  pub all : (i : ℕ) → has_bit m i ≡ true → (k : ℕ) × (k < length l) × (get_or l k 0 ≡ i)
  pub long : length l ≡ count w (has_bit m)

walked_none : (w : ℕ) → Walked w 0 []
walked_none w = record {
  states = λ k l. absurd (omega arith);
  ascends = λ k l. absurd (omega arith);
  all = λ i t. absurd (clash (has_none i) t);
  long = sym (count_none w (has_bit 0) (λ i l. has_none i));
}

walked_more : (w m : ℕ) → 0 < m → m < 2 ^ w → (l : List ℕ) → Walked w (rest_of m) l → Walked w m (lowest_of w m ∷ l)
walked_more w m p h l d = record {
  states = states;
  ascends = ascends;
  all = λ i t. by_cases (ℕ_discrete i (lowest_of w m)) (λ e. (0, omega arith, sym e))
      (λ e. let q = d.all i (rest_keeps w m p h i t e) in (suc q.0, omega (arith, q.1), q.2));
  long = ap suc d.long ∙ sym (count_rest w m p h);
}
  where
    states : (k : ℕ) → k < suc (length l) → has_bit m (get_or (lowest_of w m ∷ l) k 0) ≡ true
    states zero q = lowest_set w m p h
    states (suc k) q = rest_has w m p h (get_or l k 0) (d.states k (omega arith))

    ascends : (k : ℕ) → suc k < suc (length l) → get_or (lowest_of w m ∷ l) k 0 < get_or l k 0
    ascends zero q = rest_above w m p h (get_or l 0 0) (d.states 0 (omega arith))
    ascends (suc k) q = d.ascends k (omega arith)

-- as many turns as the mask has states are enough
pub walk_is : (w n m : ℕ) → m < 2 ^ w → count w (has_bit m) ≤ n → Walked w m (walk w n m)
unfolding walk
walk_is w zero m h c = go (ℕ_discrete m 0)
  where
    go : Dec (m ≡ 0) → Walked w m []
    go (yes e) = rw e (walked_none w)
    go (no e) = absurd (omega (arith, count_rest w m (omega arith) h))
walk_is w (suc n) m h c =
    cond_cases (eqb m 0) (Walked w m) [] (lowest_of w m ∷ walk w n (rest_of m))
    (λ t. rw (eqb-true m 0 t) (walked_none w))
    (λ t. let d : m ≡ 0 → ⊥ = eqb-false m 0 t in
    walked_more w m (omega arith) h _ (walk_is w n (rest_of m) (rest_small w m (omega arith) h) (omega (arith, count_rest w m (omega arith) h))))
