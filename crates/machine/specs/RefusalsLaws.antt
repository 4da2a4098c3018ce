-- Laws of results: which test of a row of tests tells the answer, and what a lent buffer and C's list of four hold then.
use Rattle.std.specs.Prelude.{Bool, true, false, cond, List, [], ◌∷◌, get_or, ◌++◌, ◌⊎◌, ◌≡◌, ltb, length, drop, Err, Ok}
use Rattle.std.proofs.Math.Logic.{inl, inr, by_cases}
use Rattle.std.proofs.Math.Path.{refl, ap}
use Rattle.std.proofs.Common.{sym, subst, ◌∙◌, arith, lt-ltb, le-ltb, ltb-false}
use Prim.Native.Nat.{ℕ, zero, suc, ◌≤◌, ◌<◌}
use Rattle.std.proofs.Math.Decide.{dec_lt}
use Rattle.std.proofs.Math.ListN.{length-append, length-drop}
use Rattle.std.proofs.lemmas.List.Edits.{sets}
use Rattle.machine.specs.declared.Refusal.{Refusal}
use Rattle.machine.specs.Refusals.{spot_of, Tested, valid, and_then, pass_on, each, buffer_after, state_after, four_numbers, spot_after, buffer_validity, Answer}
use Rattle.machine.specs.declared.Refusal.TheVariants.{ShortBuffer, BadLength, BadFirstBlock, BadHeader, BadCounts, WrongLength, BadBlock, BadPadding, BeyondCounts, NoStart, NoSuccessor, FailingEntry, BadLassoLength, BadLassoStep, UnfairLasso, NoStartPartner, Misplaced, OutOfRange, EmptySet, UnlikeLast, TooManyFiles}

-- ---- answers and refusals
module _ {A : Type 0} where
  pub refused_not_answer : {r : Refusal} {a : A} → ◌≡◌ {A = Answer A} (Err r) (Ok a) → ⊥
  refused_not_answer e = let z : ◌≡◌ {A = ℕ} 0 1 = cc in omega arith

  pub answer_is : {a b : A} → ◌≡◌ {A = Answer A} (Ok a) (Ok b) → a ≡ b
  answer_is e = cc

  pub refused_is : {r s : Refusal} → ◌≡◌ {A = Answer A} (Err r) (Err s) → r ≡ s
  refused_is e = cc

-- what is refused where b holds is valid only where b does not and the rest is
pub valid_next : (b : Bool) (r : Refusal) (v : Tested) → cond b (Err r) v ≡ valid → (b ≡ false) × (v ≡ valid)
valid_next true r v e = absurd (refused_not_answer e)
valid_next false r v e = (refl, e)

-- and what is refused unless b holds is valid only where b holds and the rest is
pub valid_if : (b : Bool) (v : Tested) (r : Refusal) → cond b v (Err r) ≡ valid → (b ≡ true) × (v ≡ valid)
valid_if true v r e = (refl, e)
valid_if false v r e = absurd (refused_not_answer e)

-- ---- the first refusal of two
module _ {A : Type 0} where
  pub then_of : (v : Tested) (w : Answer A) → v ≡ valid → and_then v w ≡ w
  unfolding and_then pass_on
  then_of v w e = rw e

  pub then_refused : (v : Tested) (w : Answer A) (r : Refusal) → v ≡ Err r → and_then v w ≡ Err r
  unfolding and_then pass_on
  then_refused v w r e = rw e

  -- an answer is given only where nothing is refused
  pub then_answer : (v : Tested) (w : Answer A) {a : A} → and_then v w ≡ Ok a → (v ≡ valid) × (w ≡ Ok a)
  unfolding and_then pass_on
  then_answer (Ok t) w e = (refl, e)
  then_answer (Err r) w e = absurd (refused_not_answer e)

  -- a refusal is the first test's, or the first tells nothing
  pub then_cases : (v : Tested) (w : Answer A) (r : Refusal) → and_then v w ≡ Err r → (v ≡ Err r) ⊎ ((v ≡ valid) × (w ≡ Err r))
  unfolding and_then pass_on
  then_cases (Ok t) w r e = inr (refl, e)
  then_cases (Err s) w r e = inl (ap Err (refused_is e))

  pub then_then : (u v : Tested) (w : Answer A) → and_then (and_then u v) w ≡ and_then u (and_then v w)
  unfolding and_then pass_on
  then_then (Ok t) v w = refl
  then_then (Err r) v w = refl

  -- an answer behind tests
  pub given_at : (v : Tested) (a : A) {b : A} → and_then v (Ok a) ≡ Ok b → (v ≡ valid) × (a ≡ b)
  given_at v a e = let q = then_answer v (Ok a) e in (q.0, answer_is q.1)

  pub given_refused : (v : Tested) (a : A) {r : Refusal} → and_then v (Ok a) ≡ Err r → v ≡ Err r
  unfolding and_then pass_on
  given_refused (Ok t) a e = absurd (refused_not_answer (sym e))
  given_refused (Err s) a e = ap Err (refused_is e)

module _ {A B : Type 0} where
  pub pass_of : (v : Answer A) (f : A → Answer B) {a : A} → v ≡ Ok a → pass_on v f ≡ f a
  unfolding pass_on
  pass_of v f e = rw e

  pub pass_refused : (v : Answer A) (f : A → Answer B) {r : Refusal} → v ≡ Err r → pass_on v f ≡ Err r
  unfolding pass_on
  pass_refused v f e = rw e

  -- an answer comes from an answer
  pub pass_answer : (v : Answer A) (f : A → Answer B) {b : B} → pass_on v f ≡ Ok b → (a : A) × (v ≡ Ok a) × (f a ≡ Ok b)
  unfolding pass_on
  pass_answer (Ok a) f e = (a, refl, e)
  pass_answer (Err r) f e = absurd (refused_not_answer e)

-- ---- tests in a row, the lowest first
pub each_none : (t : ℕ → Tested) → each 0 t ≡ valid
unfolding each
each_none t = refl

pub each_next : (n : ℕ) (t : ℕ → Tested) → each n t ≡ valid → t n ≡ valid → each (suc n) t ≡ valid
unfolding each
each_next n t e h = then_of _ _ e ∙ h

pub each_valid : (n : ℕ) (t : ℕ → Tested) → ((i : ℕ) → i < n → t i ≡ valid) → each n t ≡ valid
each_valid zero t h = each_none t
each_valid (suc n) t h = each_next n t (each_valid n t (λ i l. h i (omega arith))) (h n (omega arith))

pub each_at : (n : ℕ) (t : ℕ → Tested) → each n t ≡ valid → (i : ℕ) → i < n → t i ≡ valid
unfolding each
each_at zero t e i l = absurd (omega arith)
each_at (suc n) t e i l = let b = then_answer (each n t) (t n) e in
    by_cases (dec_lt i n) (λ q. each_at n t b.0 i q) (λ q. let z : n ≡ i = omega arith in subst (λ (k : ℕ). t k ≡ valid) z b.1)

-- the refusal of the lowest that refuses
pub each_refused : (n : ℕ) (t : ℕ → Tested) (i : ℕ) {r : Refusal} → i < n → each i t ≡ valid → t i ≡ Err r → each n t ≡ Err r
unfolding each
each_refused zero t i l e h = absurd (omega arith)
each_refused (suc n) t i {r} l e h =
    by_cases (dec_lt i n) (λ q. then_refused _ _ r (each_refused n t i q e h))
    (λ q. let z : i ≡ n = omega arith in subst (λ (k : ℕ). each k t ≡ valid → t k ≡ Err r → and_then (each n t) (t n) ≡ Err r) (sym z) (λ a b. then_of _ _ a ∙ b) e h)

-- ---- whatever a test refuses with, a fact holds of it
abbrev pub RefusesOnly : (Refusal → Type 0) → Tested → Type 0
RefusesOnly F v = (r : Refusal) → v ≡ Err r → F r

module _ (F : Refusal → Type 0) where
  pub refuses_none : RefusesOnly F valid
  refuses_none r e = absurd (refused_not_answer (sym e))

  pub refuses_at : (s : Refusal) → F s → RefusesOnly F (Err s)
  refuses_at s h r e = subst F (refused_is e) h

  pub refuses_cond : (b : Bool) (v w : Tested) → (b ≡ true → RefusesOnly F v) → (b ≡ false → RefusesOnly F w) → RefusesOnly F (cond b v w)
  refuses_cond true v w p q = p refl
  refuses_cond false v w p q = q refl

  pub refuses_then : (v w : Tested) → RefusesOnly F v → (v ≡ valid → RefusesOnly F w) → RefusesOnly F (and_then v w)
  unfolding and_then pass_on
  refuses_then (Ok t) w p q = q refl
  refuses_then (Err s) w p q = p

  -- of the one that refuses, those before it pass
  pub refuses_each : (n : ℕ) (t : ℕ → Tested) → ((i : ℕ) → i < n → each i t ≡ valid → RefusesOnly F (t i)) → RefusesOnly F (each n t)
  unfolding each
  refuses_each zero t h = refuses_none
  refuses_each (suc n) t h = refuses_then (each n t) (t n) (refuses_each n t (λ i l. h i (omega arith))) (h n (omega arith))

-- ---- lent buffers
pub buffer_valid : (least len : ℕ) → least ≤ len → buffer_validity least len ≡ valid
unfolding buffer_validity
buffer_valid least len h = rw (le-ltb len least h)

pub buffer_short : (least len : ℕ) → len < least → buffer_validity least len ≡ Err ShortBuffer
unfolding buffer_validity
buffer_short least len h = rw (lt-ltb len least h)

pub buffer_room : (least len : ℕ) → buffer_validity least len ≡ valid → least ≤ len
unfolding buffer_validity
buffer_room least len e = ltb-false len least (valid_next (ltb len least) _ _ e).0

module _ {A : Type 0} where
  pub buffer_made : (v : Answer A) {a : A} (made buffer : List ℕ) → v ≡ Ok a → buffer_after v made buffer ≡ made ++ drop (length made) buffer
  unfolding buffer_after
  buffer_made v made buffer e = rw e

  pub buffer_kept : (v : Answer A) {r : Refusal} (made buffer : List ℕ) → v ≡ Err r → buffer_after v made buffer ≡ buffer
  unfolding buffer_after
  buffer_kept v made buffer e = rw e

  -- what is made is no longer than the buffer: its length stays
  pub buffer_length : (v : Answer A) (made buffer : List ℕ) → length made ≤ length buffer → length (buffer_after v made buffer) ≡ length buffer
  unfolding buffer_after
  buffer_length (Ok a) made buffer h = omega (arith, length-append made (drop (length made) buffer), length-drop (length made) buffer)
  buffer_length (Err r) made buffer h = refl

-- ---- a state that is handed in
module _ {A S : Type 0} where
  pub state_made : (v : Answer A) {a : A} (made given : S) → v ≡ Ok a → state_after v made given ≡ made
  unfolding state_after
  state_made v made given e = rw e

  pub state_kept : (v : Answer A) {r : Refusal} (made given : S) → v ≡ Err r → state_after v made given ≡ given
  unfolding state_after
  state_kept v made given e = rw e

-- ---- C's list of four
-- a list of four is its four numbers
pub four_is : (l : List ℕ) → length l ≡ 4 → l ≡ get_or l 0 0 ∷ get_or l 1 0 ∷ get_or l 2 0 ∷ get_or l 3 0 ∷ []
four_is [] h = absurd (omega (arith, h))
four_is (a ∷ []) h = absurd (omega (arith, h))
four_is (a ∷ b ∷ []) h = absurd (omega (arith, h))
four_is (a ∷ b ∷ c ∷ []) h = absurd (omega (arith, h))
four_is (a ∷ b ∷ c ∷ d ∷ []) h = refl
four_is (a ∷ b ∷ c ∷ d ∷ e ∷ l) h = absurd (omega (arith, h))

-- a spot is three numbers
pub spot_three : (r : Refusal) → spot_of r ≡ get_or (spot_of r) 0 0 ∷ get_or (spot_of r) 1 0 ∷ get_or (spot_of r) 2 0 ∷ []
spot_three ShortBuffer = refl
spot_three BadLength = refl
spot_three BadFirstBlock = refl
spot_three BadHeader = refl
spot_three BadCounts = refl
spot_three WrongLength = refl
spot_three (BadBlock block) = refl
spot_three BadPadding = refl
spot_three (BeyondCounts machine) = refl
spot_three (NoStart machine) = refl
spot_three (NoSuccessor machine state) = refl
spot_three (FailingEntry section c a) = refl
spot_three BadLassoLength = refl
spot_three (BadLassoStep position) = refl
spot_three (UnfairLasso set) = refl
spot_three NoStartPartner = refl
spot_three (Misplaced block found) = refl
spot_three OutOfRange = refl
spot_three (EmptySet machine set) = refl
spot_three UnlikeLast = refl
spot_three TooManyFiles = refl

module _ {A : Type 0} where
  pub spot_kept : {v : Answer A} {a : A} (spot : List ℕ) → v ≡ Ok a → spot_after v spot ≡ spot
  unfolding spot_after
  spot_kept spot e = rw e

  pub spot_put : {v : Answer A} {r : Refusal} (spot : List ℕ) → v ≡ Err r → spot_after v spot ≡ sets spot 0 (four_numbers r)
  unfolding spot_after
  spot_put spot e = rw e

-- ---- tests that say the same, with what is said and written where they refuse nothing
pub then_same : {A : Type 0} (v u : Tested) (w x : Answer A) → v ≡ u → (v ≡ valid → w ≡ x) → and_then v w ≡ and_then u x
unfolding and_then pass_on
then_same v u w x e h = go v h ∙ ap (λ (v : Tested). and_then v x) e
  where
    go : (v : Tested) → (v ≡ valid → w ≡ x) → and_then v w ≡ and_then v x
    go (Ok t) h = h refl
    go (Err r) h = refl

pub after_same : (v u : Tested) (made other buffer : List ℕ) → v ≡ u → (v ≡ valid → made ≡ other) → buffer_after v made buffer ≡ buffer_after u other buffer
unfolding buffer_after
after_same v u made other buffer e h = go v h ∙ ap (λ (v : Tested). buffer_after v other buffer) e
  where
    go : (v : Tested) → (v ≡ valid → made ≡ other) → buffer_after v made buffer ≡ buffer_after v other buffer
    go (Ok t) h = rw (h refl)
    go (Err r) h = refl
