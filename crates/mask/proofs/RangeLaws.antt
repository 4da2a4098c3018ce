-- What `any`, `all`, `find`, `position` and `count` give over a range and over a slice of numbers, in the words of `some`, `every`, `first` and `count`.
-- The closure has one premise: a call of it leaves it as it was, and gives the test's answer at the number, or at each place of the slice that holds the number.
use Rattle.std.specs.Prelude.{◌≡◌, refl, Bool, true, false, cond, ℕ, suc, ◌+◌, ◌-◌, ◌<◌, ◌≤◌, List, [], ◌∷◌, length, get_or, ltb, eqb, Option, Some, None, MatchBool, MatchOption}
use Rattle.std.proofs.Common.{sym, ap, subst, ◌∙◌, zero-le, zero-add, arith, lt-ltb, le-ltb, eq-eqb, eqb-true, ext_get_or}
use Rattle.std.proofs.Math.Logic.{by_cases}
use Rattle.std.proofs.Math.Decide.{dec_lt}
use lib.Pointwise.{pointwise, bytes_decides}
use denote.Param.Members.{Mut}
use denote.Ref.{Bor}
use Rattle.std.specs.Fn.{Called, CalledAt}
use Rattle.std.specs.Iterator.{AlwaysYields, Yields, Drains, ChecksAny, ChecksAll, FindsPosition, FindsItem}
use Rattle.std.specs.Iterator.Adapters.{filter_source, filter_callee, filter_steps}
use Rattle.std.specs.List.{FoldsTo, range_with_len, AllWithin, HoldsAt}
use Rattle.std.specs.Slice.Iter.{iter_rest}
use Rattle.std.specs.declared.ops.Range.{Range}
use Rattle.std.specs.declared.slice.Iter.{Iter}
use Rattle.std.specs.declared.iter.Filter.{Filter}
use Rattle.std.proofs.iter.Yields.{fronts, nat_range_steps}
use Rattle.std.proofs.lemmas.Iterator.{YieldsList, YieldsList-from_slice, YieldsList-from_range, cases_from_any, cases_from_all, IsFirst-from_position, first_from_Range}
use Rattle.std.proofs.lemmas.List.FromFn.{length-range_with_len, get_or-range_with_len}
use Rattle.mask.specs.Bounded.{some, every, first, below, count}
use Rattle.mask.specs.Logic.{or}
use Rattle.mask.specs.LogicLaws.{both, or_l, or_r, or_false_l}
use Rattle.mask.specs.BoundedLaws.{some_of, some_none, every_of, every_at, every_not, first_is, first_none, count_front, count_zero}

no_first : (n : ℕ) (p : ℕ → Bool) → ((i : ℕ) → i < n → p i ≡ false) → None ≡ below n (first n p)
unfolding below
no_first n p h = rw (first_none n p h, le-ltb n n (omega arith))

is_first : (n : ℕ) (p : ℕ → Bool) (k : ℕ) → k < n → p k ≡ true → ((i : ℕ) → i < k → p i ≡ false) → Some k ≡ below n (first n p)
unfolding below
is_first n p k l t h = rw (first_is n p k l t h, lt-ltb k n l)

-- one number more, the first
count_step : (n : ℕ) (p : ℕ → Bool) (b : Bool) → b ≡ p 0 → count (suc n) p ≡ cond b (suc (count n (λ i. p (suc i)))) (count n (λ i. p (suc i)))
count_step n p true e = count_front n p ∙ rw (← e) (omega arith)
count_step n p false e = count_front n p ∙ rw (← e) (omega arith)

-- b is the test's answer at each place of the list that holds y
abbrev Tells : {B : Type 0} → B → List B → ℕ → (ℕ → Bool) → Bool → B → Type 0
Tells d xs n p b y = (i : ℕ) → i < n → y ≡ get_or xs i d → b ≡ p i

module _ {B : Type 0} (d : B) (xs : List B) (n : ℕ) (p : ℕ → Bool) (e : length xs ≡ n) where
  at_place : (b : Bool) (k : ℕ) → k < n → HoldsAt (Tells d xs n p b) xs k → p k ≡ b
  at_place b k l h = sym (h d k l refl)

  at_places : (b : Bool) (m : ℕ) → m ≤ n → AllWithin (Tells d xs n p b) xs 0 m → (k : ℕ) → k < m → p k ≡ b
  at_places b m l h k a = at_place b k (omega arith) (λ y. h k y zero-le a)

  some_told : (r : Bool) → MatchBool r ((k : ℕ) × (k < length xs) × HoldsAt (Tells d xs n p true) xs k) (AllWithin (Tells d xs n p false) xs 0 (length xs)) → r ≡ some n p
  some_told true h = let l : h.0 < n = omega (arith, h.1) in sym (some_of n p h.0 l (at_place true h.0 l h.2))
  some_told false h = sym (some_none n p (λ i l. at_places false (length xs) (omega arith) h i (omega arith)))

  every_told : (r : Bool) → MatchBool r (AllWithin (Tells d xs n p true) xs 0 (length xs)) ((k : ℕ) × (k < length xs) × HoldsAt (Tells d xs n p false) xs k) → r ≡ every n p
  every_told true h = sym (every_of n p (λ i l. at_places true (length xs) (omega arith) h i (omega arith)))
  every_told false h = let l : h.0 < n = omega (arith, h.1) in sym (every_not n p h.0 l (at_place false h.0 l h.2))

-- ---- `any`, `all` and `position` of what gives the list xs
module _ {S A B F : Type 0} {steps : S → Option A → S → Type 0} {v : A → B} {g : Mut F (A × Unit {0}) Bool} {s : S} {xs : List B} (u : S) (f : F) (d : B) (n : ℕ) (p : ℕ → Bool) where
  any_places : (r : Bool) → ChecksAny steps g s f r u → YieldsList steps v s xs → length xs ≡ n
      → ((x : A) (b : Bool) (q : F) → Called g f (x, tt) b q → (q ≡ f) × Tells d xs n p b (v x)) → r ≡ some n p
  any_places r c y e k = some_told d xs n p e r (cases_from_any u f r (Tells d xs n p true) (Tells d xs n p false) c y (λ x q h. (k x true q h).1) (λ x q. k x false q))

  all_places : (r : Bool) → ChecksAll steps g s f r u → YieldsList steps v s xs → length xs ≡ n
      → ((x : A) (b : Bool) (q : F) → Called g f (x, tt) b q → (q ≡ f) × Tells d xs n p b (v x)) → r ≡ every n p
  all_places r c y e k = every_told d xs n p e r (cases_from_all u f r (Tells d xs n p true) (Tells d xs n p false) c y (λ x q. k x true q) (λ x q h. (k x false q h).1))

  position_places : (r : Option ℕ) → FindsPosition steps g s f r u → YieldsList steps v s xs → length xs ≡ n
      → ((x : A) (b : Bool) (q : F) → Called g f (x, tt) b q → (q ≡ f) × Tells d xs n p b (v x)) → r ≡ below n (first n p)
  position_places r c y e k = found r (IsFirst-from_position u f r (Tells d xs n p true) (Tells d xs n p false) c y (λ x q h. (k x true q h).1) (λ x q. k x false q))
    where
      found : (r : Option ℕ) → MatchOption r (AllWithin (Tells d xs n p false) xs 0 (length xs)) (λ i. (i < length xs) × HoldsAt (Tells d xs n p true) xs i × AllWithin (Tells d xs n p false) xs 0 i) → r ≡ below n (first n p)
      found None h = no_first n p (λ i l. at_places d xs n p e false (length xs) (omega arith) h i (omega arith))
      found (Some k) h = let l : k < n = omega (arith, h.0) in is_first n p k l (at_place d xs n p e true k l h.1) (at_places d xs n p e false k (omega arith) h.2)

-- ---- over a range from 0
at_number : (n : ℕ) (p : ℕ → Bool) (b : Bool) (x : ℕ) → (x < n → b ≡ p x) → Tells 0 (range_with_len 0 n) n p b x
at_number n p b x h i l e = let q : x ≡ i = e ∙ get_or-range_with_len 0 n i 0 l ∙ zero-add i in subst (λ (k : ℕ). b ≡ p k) q (h (omega arith))

module _ {F : Type 0} {n : ℕ} {p : ℕ → Bool} {f : F} where
  pub any_range : {g : Mut F (ℕ × Unit {0}) Bool} {u : Range ℕ} {r : Bool} → ChecksAny nat_range_steps g (record { start = 0; end = n }) f r u
      → ((x : ℕ) (b : Bool) (q : F) → Called g f (x, tt) b q → (q ≡ f) × (x < n → b ≡ p x)) → r ≡ some n p
  any_range {u = u} {r = r} c k = any_places u f 0 n p r c (YieldsList-from_range 0 n n refl (omega arith)) (length-range_with_len 0 n) (λ x b q h. let t = k x b q h in (t.0, at_number n p b x t.1))

  pub all_range : {g : Mut F (ℕ × Unit {0}) Bool} {u : Range ℕ} {r : Bool} → ChecksAll nat_range_steps g (record { start = 0; end = n }) f r u
      → ((x : ℕ) (b : Bool) (q : F) → Called g f (x, tt) b q → (q ≡ f) × (x < n → b ≡ p x)) → r ≡ every n p
  all_range {u = u} {r = r} c k = all_places u f 0 n p r c (YieldsList-from_range 0 n n refl (omega arith)) (length-range_with_len 0 n) (λ x b q h. let t = k x b q h in (t.0, at_number n p b x t.1))

  pub find_range : {g : Mut F (Bor ℕ × Unit {0}) Bool} (u : Range ℕ) {r : Option ℕ} → FindsItem nat_range_steps g (record { start = 0; end = n }) f r u
      → ((x : ℕ) (b : Bool) (q : F) → CalledAt g f x b q → (q ≡ f) × (x < n → b ≡ p x)) → r ≡ below n (first n p)
  find_range u {r = r} c k = found r (first_from_Range (record { start = 0; end = n }) u f r (λ i. i < n → true ≡ p i) (λ i. i < n → false ≡ p i) c (λ x q h. (k x true q h).1) (λ x q. k x false q))
    where
      found : (r : Option ℕ) → MatchOption r ((i : ℕ) → 0 ≤ i → i < n → i < n → false ≡ p i) (λ i. (0 ≤ i) × (i < n) × (i < n → true ≡ p i) × ((j : ℕ) → 0 ≤ j → j < i → j < n → false ≡ p j)) → r ≡ below n (first n p)
      found None h = no_first n p (λ i l. sym (h i zero-le l l))
      found (Some i) h = let l : i < n = h.1 in is_first n p i l (sym (h.2 l)) (λ j a. sym (h.3 j zero-le a (omega arith)))

-- ---- over a range from any start
every_from : (a n : ℕ) (p : ℕ → Bool) → every (n - a) (λ i. p (a + i)) ≡ every n (λ e. or (ltb e a) (p e))
every_from a n p = both _ _
    (λ t. every_of n _ (λ e l. by_cases (dec_lt e a) (λ q. or_l _ (lt-ltb e a q))
    (λ q. let s : a + (e - a) ≡ e = omega arith in or_r _ (subst (λ (x : ℕ). p x ≡ true) s (every_at (n - a) _ t (e - a) (omega arith))))))
    (λ t. every_of (n - a) _ (λ i l. sym (or_false_l _ (le-ltb (a + i) a (omega arith))) ∙ every_at n _ t (a + i) (omega arith)))

pub all_from : {F : Type 0} {a n : ℕ} {p : ℕ → Bool} {f : F} {g : Mut F (ℕ × Unit {0}) Bool} {u : Range ℕ} {r : Bool} → ChecksAll nat_range_steps g (record { start = a; end = n }) f r u
    → ((x : ℕ) (b : Bool) (q : F) → Called g f (x, tt) b q → (q ≡ f) × (x < n → b ≡ p x)) → r ≡ every n (λ e. or (ltb e a) (p e))
all_from {a = a} {n = n} {p = p} {f = f} {u = u} {r = r} c k =
    all_places u f 0 (n - a) (λ i. p (a + i)) r c (YieldsList-from_range a n (n - a) refl refl) (length-range_with_len a (n - a))
    (λ x b q h. let t = k x b q h in (t.0, λ i l e. let s : x ≡ a + i = e ∙ get_or-range_with_len a (n - a) i 0 l in subst (λ (y : ℕ). b ≡ p y) s (t.1 (omega arith)))) ∙ every_from a n p

-- ---- over a slice of numbers
module _ {F : Type 0} {n : ℕ} {p : ℕ → Bool} {s u : Iter ℕ} {f : F} {xs : List ℕ} {g : Mut F (Bor ℕ × Unit {0}) Bool} where
  pub any_slice : {r : Bool} → ChecksAny fronts g s f r u → iter_rest s ≡ xs → length xs ≡ n
      → ((x : Bor ℕ) (b : Bool) (q : F) → Called g f (x, tt) b q → (q ≡ f) × ((i : ℕ) → i < n → x.now ≡ get_or xs i 0 → b ≡ p i)) → r ≡ some n p
  any_slice {r} c w e k = any_places u f 0 n p r c (YieldsList-from_slice xs w) e k

  pub all_slice : {r : Bool} → ChecksAll fronts g s f r u → iter_rest s ≡ xs → length xs ≡ n
      → ((x : Bor ℕ) (b : Bool) (q : F) → Called g f (x, tt) b q → (q ≡ f) × ((i : ℕ) → i < n → x.now ≡ get_or xs i 0 → b ≡ p i)) → r ≡ every n p
  all_slice {r} c w e k = all_places u f 0 n p r c (YieldsList-from_slice xs w) e k

  pub position_slice : {r : Option ℕ} → FindsPosition fronts g s f r u → iter_rest s ≡ xs → length xs ≡ n
      → ((x : Bor ℕ) (b : Bool) (q : F) → Called g f (x, tt) b q → (q ≡ f) × ((i : ℕ) → i < n → x.now ≡ get_or xs i 0 → b ≡ p i)) → r ≡ below n (first n p)
  position_slice {r} c w e k = position_places u f 0 n p r c (YieldsList-from_slice xs w) e k

-- ---- `filter` and `count` of what gives the list xs
module _ {S A B F : Type 0} (steps : S → Option A → S → Type 0) (v : A → B) (g : Mut F (Bor A × Unit {0}) Bool) (f : F) (d : B) where
  abbrev Answers : List B → (ℕ → Bool) → Type 0
  Answers xs p = (x : A) (b : Bool) (q : F) → CalledAt g f x b q → (q ≡ f) × Tells d xs (length xs) p b (v x)

  later : (y : B) (ys : List B) (p : ℕ → Bool) → Answers (y ∷ ys) p → Answers ys (λ i. p (suc i))
  later y ys p k x b q h = let t = k x b q h in (t.0, λ i l e. t.1 (suc i) (omega arith) e)

  ended : (more : List B) (t u : S) → AlwaysYields steps v t more → steps t None u → more ≡ []
  ended [] t u e h = refl
  ended (y ∷ ys) t u e h = absurd (e.0 u h)

  went : (more : List B) (t u : S) (x : A) → AlwaysYields steps v t more → steps t (Some x) u → (ys : List B) × (more ≡ v x ∷ ys) × AlwaysYields steps v u ys
  went [] t u x e h = absurd (e x u h)
  went (y ∷ ys) t u x e h = let n = e.1 x u h in (ys, ap (λ w. w ∷ ys) (sym n.0), n.1)

  -- the calls that gave false leave a list with as many that pass
  passed_over : (xs : List A) (ys : List B) (p : ℕ → Bool) (s t : S) (q : F) → Answers ys p → AlwaysYields steps v s ys → Yields steps s xs t → FoldsTo (λ a x b. CalledAt g a x false b) f xs q
      → (more : List B) × (after : ℕ → Bool) × (q ≡ f) × (count (length ys) p ≡ count (length more) after) × Answers more after × AlwaysYields steps v t more
  passed_over [] ys p s t q k e y c = (ys, p, sym c, refl, k, subst (λ w. AlwaysYields steps v w ys) y e)
  passed_over (x ∷ xs) [] p s t q k e y c = absurd (e x y.0 y.1)
  passed_over (x ∷ xs) (z ∷ ys) p s t q k e y c =
      let n = e.1 x y.0 y.1 in
      let a = k x false c.0 c.1 in
      let m = passed_over xs ys (λ i. p (suc i)) y.0 t q (later z ys p k) n.1 y.2 (subst (λ w. FoldsTo (λ a x b. CalledAt g a x false b) w xs q) a.0 c.2) in
      (m.0, m.1, m.2, count_step (length ys) p false (a.1 0 (omega arith) n.0) ∙ m.3, m.4, m.5)

  counted : (zs : List A) (ys : List B) (p : ℕ → Bool) (s t u : Filter S F) → Answers ys p → filter_callee s ≡ f → AlwaysYields steps v (filter_source s) ys
      → Yields (filter_steps steps g) s zs t → filter_steps steps g t None u → length zs ≡ count (length ys) p
  counted [] ys p s t u k a e y h =
      let w = subst (λ z. filter_steps steps g z None u) (sym y) h in
      let m = passed_over w.0 ys p (filter_source s) w.2.0 w.1 k e w.2.1 (subst (λ z. FoldsTo (λ a x b. CalledAt g a x false b) z w.0 w.1) a w.3) in
      sym (m.3 ∙ ap (λ l. count (length l) m.1) (ended m.0 w.2.0 (filter_source u) m.5 w.2.2) ∙ count_zero m.1)
  counted (x ∷ zs) ys p s t u k a e y h =
      let w = y.1 in
      let m = passed_over w.0 ys p (filter_source s) w.2.0 w.1 k e w.2.1 (subst (λ z. FoldsTo (λ a x b. CalledAt g a x false b) z w.0 w.1) a w.3) in
      let o = went m.0 w.2.0 (filter_source y.0) x m.5 w.2.2 in
      let r : Answers (v x ∷ o.0) m.1 = subst (λ l. Answers l m.1) o.1 m.4 in
      let t = r x true (filter_callee y.0) (subst (λ z. CalledAt g z x true (filter_callee y.0)) m.2 w.4) in
      let n = counted zs o.0 (λ i. m.1 (suc i)) y.0 _ u (later (v x) o.0 m.1 r) t.0 o.2 y.2 h in
      sym (m.3 ∙ ap (λ l. count (length l) m.1) o.1 ∙ count_step (length o.0) m.1 true (t.1 0 (omega arith) refl) ∙ ap suc (sym n))

module _ {F : Type 0} {n : ℕ} {p : ℕ → Bool} {f : F} {r : ℕ} where
  pub count_range : {g : Mut F (Bor ℕ × Unit {0}) Bool} {s : Filter (Range ℕ) F} → (zs : List ℕ) × Drains (filter_steps nat_range_steps g) s zs × (r ≡ length zs)
      → filter_source s ≡ record { start = 0; end = n } → filter_callee s ≡ f
      → ((x : ℕ) (b : Bool) (q : F) → CalledAt g f x b q → (q ≡ f) × (x < n → b ≡ p x)) → r ≡ count n p
  count_range {g = g} {s = s} c w a k =
      let road = YieldsList-from_range 0 n n w (omega arith) in
      let long = length-range_with_len 0 n in
      c.2 ∙ counted nat_range_steps (λ x. x) g f 0 c.0 (range_with_len 0 n) p s _ _ (λ x b q h. let t = k x b q h in (t.0, λ i l e. at_number n p b x t.1 i (omega arith) e)) a road.runs c.1.1.1 c.1.1.2 ∙ ap (λ (m : ℕ). count m p) long

  pub count_slice : {g : Mut F (Bor (Bor ℕ) × Unit {0}) Bool} {s : Filter (Iter ℕ) F} {i : Iter ℕ} {xs : List ℕ} → (zs : List (Bor ℕ)) × Drains (filter_steps fronts g) s zs × (r ≡ length zs)
      → filter_source s ≡ i → filter_callee s ≡ f → iter_rest i ≡ xs → length xs ≡ n
      → ((x : Bor ℕ) (b : Bool) (q : F) → CalledAt g f x b q → (q ≡ f) × ((i : ℕ) → i < n → x.now ≡ get_or xs i 0 → b ≡ p i)) → r ≡ count n p
  count_slice {g = g} {s = s} {xs = xs} c w a e l k =
      let road = YieldsList-from_slice xs (ap iter_rest w ∙ e) in
      c.2 ∙ counted fronts (λ x. x.now) g f 0 c.0 xs p s _ _ (λ x b q h. let t = k x b q h in (t.0, λ i m e. t.1 i (omega arith) e)) a road.runs c.1.1.1 c.1.1.2 ∙ ap (λ (m : ℕ). count m p) l

-- ---- `==` of two arrays, and of two slices that are as long
pub pointwise_every : {n : ℕ} (xs ys : List ℕ) → length xs ≡ n → length ys ≡ n → pointwise eqb xs ys ≡ every n (λ e. eqb (get_or xs e 0) (get_or ys e 0))
pointwise_every {n} xs ys a b = both _ _
    (λ t. let e : xs ≡ ys = (bytes_decides xs ys).0 t in every_of n _ (λ i l. eq-eqb (get_or xs i 0) (get_or ys i 0) (ap (λ zs. get_or zs i 0) e)))
    (λ t. (bytes_decides xs ys).1 (ext_get_or 0 xs ys (omega arith) (λ i l. eqb-true (get_or xs i 0) (get_or ys i 0) (every_at n _ t i (omega arith)))))
