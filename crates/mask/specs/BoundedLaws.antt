-- Laws of the tests over the numbers below a bound.
use Rattle.std.specs.Prelude.{Bool, true, false, cond, Some, None, is_some, ltb, ◌⊎◌, ◌≡◌, refl, ℕ, zero, suc, ◌+◌, ◌*◌, ◌≤◌, ◌<◌, ◌^◌}
use Rattle.std.proofs.lemmas.Bool.{false≢true}
use Rattle.std.proofs.Common.{inl, inr, ⊎_elim, sym, ap, ap₂, ◌∙◌, not-suc-le-zero, arith, ltb-true, ltb-false}
use Rattle.std.proofs.lemmas.Option.{cond_some, none-some}
use Rattle.std.proofs.Math.Logic.{by_cases}
use Rattle.std.proofs.Math.Decide.{dec_lt, ℕ_discrete}
use Rattle.mask.specs.Logic.{not, and, or}
use Rattle.mask.specs.LogicLaws.{dec, clash, refute, both, cond_cases, below_suc, and_l, and_r, and_i, and_false_l, or_l, or_r, or_e, not_e, not_i, not_false, not_or, not_not}
use Rattle.mask.specs.Bits.{has_bit}
use Rattle.mask.specs.BitsLaws.{has_lt, has_none}
use Rattle.mask.specs.Bounded.{every, some, first, below, sum, count, every_in, some_in}

-- ---- every
pub every_at : (n : ℕ) (p : ℕ → Bool) → every n p ≡ true → (i : ℕ) → i < n → p i ≡ true
unfolding every
every_at zero p t i h = absurd (not-suc-le-zero h)
every_at (suc n) p t i h = below_suc n (λ k. p k ≡ true) (every_at n p (and_r _ _ t)) (and_l _ _ t) i h

pub every_of : (n : ℕ) (p : ℕ → Bool) → ((i : ℕ) → i < n → p i ≡ true) → every n p ≡ true
unfolding every
every_of zero p h = refl
every_of (suc n) p h = and_i (h n (omega arith)) (every_of n p (λ i l. h i (omega arith)))

pub every_not : (n : ℕ) (p : ℕ → Bool) (i : ℕ) → i < n → p i ≡ false → every n p ≡ false
every_not n p i h e = refute (every n p) (λ t. clash e (every_at n p t i h))

-- ---- some
pub some_of : (n : ℕ) (p : ℕ → Bool) (i : ℕ) → i < n → p i ≡ true → some n p ≡ true
unfolding some
some_of zero p i h t = absurd (not-suc-le-zero h)
some_of (suc n) p i h t =
    below_suc n (λ k. p k ≡ true → or (p n) (some n p) ≡ true) (λ k l u. or_r _ (some_of n p k l u)) (λ u. or_l _ u) i h t

pub some_at : (n : ℕ) (p : ℕ → Bool) → some n p ≡ true → (i : ℕ) × (i < n) × (p i ≡ true)
unfolding some
some_at zero p t = absurd (false≢true t)
some_at (suc n) p t = ⊎_elim (λ u. (n, omega arith, u)) (λ u. let q = some_at n p u in (q.0, omega (arith, q.1), q.2)) (or_e t)

pub some_none : (n : ℕ) (p : ℕ → Bool) → ((i : ℕ) → i < n → p i ≡ false) → some n p ≡ false
some_none n p h = refute (some n p) (λ t. let q = some_at n p t in clash (h q.0 q.1) q.2)

pub none_at : (n : ℕ) (p : ℕ → Bool) → some n p ≡ false → (i : ℕ) → i < n → p i ≡ false
none_at n p t i h = refute (p i) (λ u. clash t (some_of n p i h u))

-- a search below n
pub find : (n : ℕ) (p : ℕ → Bool) → ((i : ℕ) × (i < n) × (p i ≡ true)) ⊎ ((i : ℕ) → i < n → p i ≡ false)
find n p = ⊎_elim (λ t. inl (some_at n p t)) (λ t. inr (none_at n p t)) (dec (some n p))

-- ---- tests that agree below the bound
pub every_cong : (n : ℕ) (p q : ℕ → Bool) → ((i : ℕ) → i < n → p i ≡ q i) → every n p ≡ every n q
unfolding every
every_cong zero p q h = refl
every_cong (suc n) p q h = ap₂ and (h n (omega arith)) (every_cong n p q (λ i k. h i (omega arith)))

pub some_cong : (n : ℕ) (p q : ℕ → Bool) → ((i : ℕ) → i < n → p i ≡ q i) → some n p ≡ some n q
unfolding some
some_cong zero p q h = refl
some_cong (suc n) p q h = ap₂ or (h n (omega arith)) (some_cong n p q (λ i k. h i (omega arith)))

pub every_some : (n : ℕ) (p : ℕ → Bool) → every n p ≡ not (some n (λ i. not (p i)))
unfolding every some not
every_some zero p = refl
every_some (suc n) p = rw (every_some n p, not_or (not (p n)) (some n (λ i. not (p i))), not_not (p n))

-- ---- the first
pub first_is : (n : ℕ) (p : ℕ → Bool) (i : ℕ) → i < n → p i ≡ true → ((k : ℕ) → k < i → p k ≡ false) → first n p ≡ i
unfolding first
first_is zero p i h e b = absurd (omega arith)
first_is (suc n) p zero h e b = rw e
first_is (suc n) p (suc i) h e b =
    rw (b zero (omega arith), first_is n (λ k. p (suc k)) i (omega arith) e (λ k q. b (suc k) (omega arith)))

pub first_none : (n : ℕ) (p : ℕ → Bool) → ((k : ℕ) → k < n → p k ≡ false) → first n p ≡ n
unfolding first
first_none zero p b = refl
first_none (suc n) p b = rw (b zero (omega arith), first_none n (λ k. p (suc k)) (λ k q. b (suc k) (omega arith)))

pub first_le : (n : ℕ) (p : ℕ → Bool) → first n p ≤ n
unfolding first
first_le zero p = omega arith
first_le (suc n) p =
    cond_cases (p 0) (λ x. x ≤ suc n) 0 (suc (first n (λ i. p (suc i)))) (λ t. omega arith) (λ t. omega (arith, first_le n (λ i. p (suc i))))

-- where the first lies below the bound, it passes
pub first_has : (n : ℕ) (p : ℕ → Bool) → first n p < n → p (first n p) ≡ true
unfolding first
first_has zero p h = absurd (omega arith)
first_has (suc n) p h =
    cond_cases (p 0) (λ x. x < suc n → p x ≡ true) 0 (suc (first n (λ i. p (suc i))))
    (λ t l. t) (λ t l. first_has n (λ i. p (suc i)) (omega arith)) h

-- and nothing before it does
pub first_before : (n : ℕ) (p : ℕ → Bool) (i : ℕ) → i < first n p → p i ≡ false
unfolding first
first_before zero p i h = absurd (omega arith)
first_before (suc n) p i h =
    cond_cases (p 0) (λ x. i < x → p i ≡ false) 0 (suc (first n (λ k. p (suc k))))
    (λ t l. absurd (omega arith)) (λ t. before (first_before n (λ k. p (suc k))) i t) h
  where
    before : ((k : ℕ) → k < first n (λ k. p (suc k)) → p (suc k) ≡ false) → (i : ℕ) → p 0 ≡ false → i < suc (first n (λ k. p (suc k))) → p i ≡ false
    before ih zero t l = t
    before ih (suc i) t l = ih i (omega arith)

pub first_cong : (n : ℕ) (p q : ℕ → Bool) → ((i : ℕ) → i < n → p i ≡ q i) → first n p ≡ first n q
unfolding first
first_cong zero p q h = refl
first_cong (suc n) p q h =
    ap₂ (λ (b : Bool) (k : ℕ). cond b 0 (suc k)) (h 0 (omega arith)) (first_cong n (λ i. p (suc i)) (λ i. q (suc i)) (λ i l. h (suc i) (omega arith)))

-- where not every number passes there is a first that does not
pub first_failing : (n : ℕ) (p : ℕ → Bool) → every n p ≡ false → (i : ℕ) × (i < n) × (p i ≡ false) × ((k : ℕ) → k < i → p k ≡ true)
first_failing zero p t = absurd (clash t (every_of 0 p (λ i l. absurd (omega arith))))
first_failing (suc n) p t = go (first_failing n p) (dec (every n p))
  where
    go : (every n p ≡ false → (i : ℕ) × (i < n) × (p i ≡ false) × ((k : ℕ) → k < i → p k ≡ true)) → (every n p ≡ true) ⊎ (every n p ≡ false)
        → (i : ℕ) × (i < suc n) × (p i ≡ false) × ((k : ℕ) → k < i → p k ≡ true)
    go ih (inl u) =
        (n, omega arith, refute _ (λ v. clash t (every_of (suc n) p (below_suc n (λ i. p i ≡ true) (every_at n p u) v))), every_at n p u)
    go ih (inr u) = let q = ih u in (q.0, omega (arith, q.1), q.2, q.3)

-- so nothing that passes comes sooner
pub first_most : (n : ℕ) (p : ℕ → Bool) (i : ℕ) → p i ≡ true → first n p ≤ i
first_most n p i t = by_cases (dec_lt i (first n p)) (λ l. absurd (clash (first_before n p i l) t)) (λ l. omega arith)

-- the first that fails lies below the bound exactly if one does
pub first_some : (n : ℕ) (p : ℕ → Bool) → first n (λ i. not (p i)) < n → every n p ≡ false
first_some n p h = every_not n p _ h (not_e _ (first_has n (λ i. not (p i)) h))

pub first_all : (n : ℕ) (p : ℕ → Bool) → n ≤ first n (λ i. not (p i)) → every n p ≡ true
first_all n p h = every_of n p (λ i l. not_false _ (first_before n (λ i. not (p i)) i (omega arith)))

-- ---- a number below n, if it is below n
pub below_at : (n i : ℕ) {k : ℕ} → below n i ≡ Some k → (k ≡ i) × (i < n)
unfolding below
below_at n i {k} e = let q = cond_some (ltb i n) i k e in (sym q.1, ltb-true i n q.0)

pub below_past : (n i : ℕ) → below n i ≡ None → n ≤ i
unfolding below
below_past n i e = ltb-false i n (go (ltb i n) e)
  where
    go : (b : Bool) → cond b (Some i) None ≡ None → b ≡ false
    go true z = absurd (none-some i (sym z))
    go false z = refl

pub is_below : (n i : ℕ) → is_some (below n i) ≡ ltb i n
unfolding below
is_below n i = go (ltb i n)
  where
    go : (b : Bool) → is_some (cond b (Some i) None) ≡ b
    go true = refl
    go false = refl

-- ---- sums and counts
pub sum_le : (n : ℕ) (f g : ℕ → ℕ) → ((i : ℕ) → i < n → f i ≤ g i) → sum n f ≤ sum n g
unfolding sum
sum_le zero f g h = omega arith
sum_le (suc n) f g h = omega (arith, sum_le n f g (λ i l. h i (omega arith)), h n (omega arith))

pub sum_eq : (n : ℕ) (f g : ℕ → ℕ) → ((i : ℕ) → i < n → f i ≤ g i) → sum n g ≤ sum n f → (i : ℕ) → i < n → g i ≤ f i
unfolding sum
sum_eq zero f g h e i l = absurd (not-suc-le-zero l)
sum_eq (suc n) f g h e j l =
    let a : sum n f ≤ sum n g = sum_le n f g (λ i l. h i (omega arith)) in
    let b : f n ≤ g n = h n (omega arith) in
    below_suc n (λ i. g i ≤ f i) (sum_eq n f g (λ i l. h i (omega arith)) (omega arith)) (omega arith) j l

pub sum_cong : (n : ℕ) (f g : ℕ → ℕ) → ((i : ℕ) → i < n → f i ≡ g i) → sum n f ≡ sum n g
unfolding sum
sum_cong zero f g h = refl
sum_cong (suc n) f g h = ap₂ ◌+◌ (sum_cong n f g (λ i k. h i (omega arith))) (h n (omega arith))

pub sum_const : (n k : ℕ) → sum n (λ i. k) ≡ n * k
unfolding sum
sum_const zero k = omega arith
sum_const (suc n) k = omega (arith, sum_const n k)

pub count_cong : (n : ℕ) (p q : ℕ → Bool) → ((i : ℕ) → i < n → p i ≡ q i) → count n p ≡ count n q
unfolding count
count_cong n p q h = sum_cong n _ _ (λ i l. ap (λ (b : Bool). cond b 1 0) (h i l))

pub count_le : (n : ℕ) (p : ℕ → Bool) → count n p ≤ n
unfolding count sum
count_le zero p = omega arith
count_le (suc n) p = cond_cases (p n) (λ x. sum n (λ i. cond (p i) 1 0) + x ≤ suc n) 1 0 (λ t. omega (arith, count_le n p)) (λ t. omega (arith, count_le n p))

pub count_zero : (p : ℕ → Bool) → count 0 p ≡ 0
unfolding count sum
count_zero p = refl

pub count_hit : (n : ℕ) (p : ℕ → Bool) → p n ≡ true → count (suc n) p ≡ suc (count n p)
unfolding count sum
count_hit n p t = rw t (omega arith)

pub count_miss : (n : ℕ) (p : ℕ → Bool) → p n ≡ false → count (suc n) p ≡ count n p
unfolding count sum
count_miss n p t = rw t (omega arith)

-- counted from the front
pub count_front : (n : ℕ) (p : ℕ → Bool) → count (suc n) p ≡ cond (p 0) 1 0 + count n (λ i. p (suc i))
unfolding count sum
count_front zero p = omega arith
count_front (suc n) p = ap (λ (x : ℕ). x + cond (p (suc n)) 1 0) (count_front n p) ∙ omega arith

-- fewer pass a stronger test
pub count_mono : (n : ℕ) (p q : ℕ → Bool) → ((i : ℕ) → i < n → p i ≡ true → q i ≡ true) → count n p ≤ count n q
unfolding count
count_mono n p q h =
    sum_le n _ _ (λ i l. cond_cases (p i) (λ x. x ≤ cond (q i) 1 0) 1 0 (λ t. rw (h i l t) (omega arith)) (λ t. omega arith))

-- one number fewer passes
pub count_remove : (n : ℕ) (p q : ℕ → Bool) (i : ℕ) → i < n → p i ≡ true → q i ≡ false → ((k : ℕ) → k < n → (k ≡ i → ⊥) → p k ≡ q k)
    → count n p ≡ suc (count n q)
count_remove zero p q i h t u same = absurd (omega arith)
count_remove (suc n) p q i h t u same = go (ℕ_discrete i n) (count_remove n p q i)
  where
    go : Dec (i ≡ n) → (i < n → p i ≡ true → q i ≡ false → ((k : ℕ) → k < n → (k ≡ i → ⊥) → p k ≡ q k) → count n p ≡ suc (count n q))
        → count (suc n) p ≡ suc (count (suc n) q)
    go (yes e) ih =
        count_hit n p (ap p (sym e) ∙ t) ∙ ap suc (count_cong n p q (λ k l. same k (omega arith) (omega arith)) ∙ sym (count_miss n q (ap q (sym e) ∙ u)))
    go (no e) ih =
        let less : count n p ≡ suc (count n q) = ih (omega arith) t u (λ k l d. same k (omega arith) d) in
        let top : p n ≡ q n = same n (omega arith) (omega arith) in
        ⊎_elim (λ v. count_hit n p v ∙ ap suc (less ∙ sym (count_hit n q (sym top ∙ v))))
        (λ v. count_miss n p v ∙ less ∙ ap suc (sym (count_miss n q (sym top ∙ v)))) (dec (p n))

pub count_none : (n : ℕ) (p : ℕ → Bool) → ((i : ℕ) → i < n → p i ≡ false) → count n p ≡ 0
count_none zero p h = count_zero p
count_none (suc n) p h = count_miss n p (h n (omega arith)) ∙ count_none n p (λ i l. h i (omega arith))

-- ---- over the states of a mask
pub every_in_at : (w m : ℕ) (p : ℕ → Bool) → every_in w m p ≡ true → (i : ℕ) → i < w → has_bit m i ≡ true → p i ≡ true
unfolding every_in
every_in_at w m p t i h e = ⊎_elim (λ u. absurd (clash (not_e _ u) e)) (λ u. u) (or_e (every_at w _ t i h))

pub every_in_of : (w m : ℕ) (p : ℕ → Bool) → ((i : ℕ) → i < w → has_bit m i ≡ true → p i ≡ true) → every_in w m p ≡ true
unfolding every_in
every_in_of w m p h = every_of w _ (λ i l. ⊎_elim (λ u. or_r _ (h i l u)) (λ u. or_l _ (not_i u)) (dec (has_bit m i)))

pub some_in_at : (w m : ℕ) (p : ℕ → Bool) → some_in w m p ≡ true → (i : ℕ) × (i < w) × (has_bit m i ≡ true) × (p i ≡ true)
unfolding some_in
some_in_at w m p t = let q = some_at w _ t in (q.0, q.1, and_l _ _ q.2, and_r _ _ q.2)

pub some_in_of : (w m : ℕ) (p : ℕ → Bool) (i : ℕ) → i < w → has_bit m i ≡ true → p i ≡ true → some_in w m p ≡ true
unfolding some_in
some_in_of w m p i h e t = some_of w _ i h (and_i e t)

pub some_in_none : (w m : ℕ) (p : ℕ → Bool) → ((i : ℕ) → i < w → has_bit m i ≡ true → p i ≡ false) → some_in w m p ≡ false
some_in_none w m p h = refute _ (λ t. let r = some_in_at w m p t in clash (h r.0 r.1 r.2) r.3)

pub every_in_cong : (w m : ℕ) (p q : ℕ → Bool) → ((i : ℕ) → i < w → has_bit m i ≡ true → p i ≡ q i) → every_in w m p ≡ every_in w m q
every_in_cong w m p q h = both _ _
    (λ t. every_in_of w m q (λ i l e. sym (h i l e) ∙ every_in_at w m p t i l e))
    (λ t. every_in_of w m p (λ i l e. h i l e ∙ every_in_at w m q t i l e))

pub some_in_cong : (w m : ℕ) (p q : ℕ → Bool) → ((i : ℕ) → i < w → has_bit m i ≡ true → p i ≡ q i) → some_in w m p ≡ some_in w m q
some_in_cong w m p q h = both _ _
    (λ t. let r = some_in_at w m p t in some_in_of w m q r.0 r.1 r.2 (sym (h r.0 r.1 r.2) ∙ r.3))
    (λ t. let r = some_in_at w m q t in some_in_of w m p r.0 r.1 r.2 (h r.0 r.1 r.2 ∙ r.3))

pub every_in_some : (w m : ℕ) (p : ℕ → Bool) → every_in w m p ≡ not (some_in w m (λ i. not (p i)))
unfolding every_in some_in
every_in_some w m p =
    every_some w (λ i. or (not (has_bit m i)) (p i))
    ∙ ap not (some_cong w (λ i. not (or (not (has_bit m i)) (p i))) (λ i. and (has_bit m i) (not (p i)))
    (λ i h. not_or (not (has_bit m i)) (p i) ∙ ap (λ (b : Bool). and b (not (p i))) (not_not (has_bit m i))))

-- a mask has the same states at every width that holds it
pub some_in_width : (v w m : ℕ) (p : ℕ → Bool) → m < 2 ^ v → m < 2 ^ w → some_in v m p ≡ some_in w m p
some_in_width v w m p h k = both (some_in v m p) (some_in w m p) (to v w k) (to w v h)
  where
    to : (a b : ℕ) → m < 2 ^ b → some_in a m p ≡ true → some_in b m p ≡ true
    to a b l e = let r = some_in_at a m p e in some_in_of b m p r.0 (has_lt b m r.0 l r.2) r.2 r.3

pub every_in_width : (v w m : ℕ) (p : ℕ → Bool) → m < 2 ^ v → m < 2 ^ w → every_in v m p ≡ every_in w m p
every_in_width v w m p h k = rw (every_in_some v m p, every_in_some w m p, some_in_width v w m (λ i. not (p i)) h k)

pub some_in_zero : (w : ℕ) (p : ℕ → Bool) → some_in w 0 p ≡ false
unfolding some_in
some_in_zero w p = some_none w _ (λ i h. and_false_l _ (has_none i))

pub every_in_zero : (w : ℕ) (p : ℕ → Bool) → every_in w 0 p ≡ true
every_in_zero w p = every_in_of w 0 p (λ i h e. absurd (clash (has_none i) e))
