-- Sequences of entries: one that falls, and one that ends where it began; a walk around the cycle of sections.
use Rattle.std.specs.Prelude.{Bool, true, false, cond, ◌≢◌, ◌≡◌, refl, ℕ, zero, suc, ◌+◌, ◌≤◌, ◌<◌, eqb, leb}
use Rattle.std.proofs.Common.{⊎_elim, ap, arith, eqb-true, eq-eqb, le-leb}
use Rattle.std.proofs.Math.Logic.{by_cases}
use Rattle.std.proofs.Math.Decide.{dec_le, dec_lt, ℕ_discrete}
use Rattle.std.proofs.lemmas.Bool.{eqb-false, lt-leb}
use Rattle.mask.specs.Logic.{and}
use Rattle.mask.specs.LogicLaws.{dec, clash, and_l, and_r, and_i}
use Rattle.mask.specs.BoundedLaws.{find}
use Rattle.machine.specs.Machines.{next}
use Rattle.machine.specs.StepLaws.{next_wrap, next_step}

-- what holds from each moment to the next holds from any moment to any later one
pub chain : (R : ℕ → ℕ → Type 0) → ((i : ℕ) → R i i) → ((i j k : ℕ) → R i j → R j k → R i k) → (n : ℕ) → ((i : ℕ) → i < n → R i (suc i))
    → (i j : ℕ) → i ≤ j → j ≤ n → R i j
chain R r t n h i zero l m = let p : i ≡ 0 = omega arith in rw p (r 0)
chain R r t n h i (suc j) l m = go (dec_le i j) (chain R r t n h i j)
  where
    go : Dec (i ≤ j) → (i ≤ j → j ≤ n → R i j) → R i (suc j)
    go (yes p) ih = t i j (suc j) (ih p (omega arith)) (h j m)
    go (no p) ih = let q : i ≡ suc j = omega arith in rw q (r (suc j))

-- a sequence that never falls and ends where it began never moves
still_up : (e : ℕ → ℕ) (n : ℕ) → e 0 ≡ e n → ((i : ℕ) → i < n → e i ≤ e (suc i)) → (i : ℕ) → i ≤ n → e i ≡ e 0
still_up e n ends h i l =
    let c = chain (λ x y. e x ≤ e y) (λ x. omega arith) (λ x y z p q. omega arith) n h in
    omega (arith, c 0 i (omega arith) l, c i n l (omega arith))

-- entries that never rise, and fall at some moments, are lower at the end if there is a moment at which the first of them would fall
pub lower_after : (e : ℕ → ℕ) (falls : ℕ → ℕ → Bool) (n : ℕ) → ((i : ℕ) → i < n → e (suc i) ≤ e i)
    → ((i : ℕ) → i < n → falls (e i) i ≡ true → e (suc i) < e i) → ((i : ℕ) × (i < n) × (falls (e 0) i ≡ true)) → e n < e 0
lower_after e falls n le lt q =
    let i = q.0 in
    let c = chain (λ x y. e y ≤ e x) (λ x. omega arith) (λ x y z p q. omega arith) n le in
    let before : e i ≤ e 0 = c 0 i (omega arith) (omega (arith, q.1)) in
    let after : e n ≤ e (suc i) = c (suc i) n q.1 (omega arith) in
    by_cases (ℕ_discrete (e i) (e 0)) (λ s. let now : falls (e i) i ≡ true = rw s q.2 in omega (arith, lt i q.1 now)) (λ d. omega (arith, le i q.1))

-- entries that never rise while they are not 0, that fall at some moments, and that end where they began, are 0 at some moment, if each
-- entry has a moment at which it falls
pub zero_met : (e : ℕ → ℕ) (falls : ℕ → ℕ → Bool) (n : ℕ) → ((i : ℕ) → i < n → e i ≢ 0 → e (suc i) ≤ e i)
    → ((i : ℕ) → i < n → e i ≢ 0 → falls (e i) i ≡ true → e (suc i) < e i) → e 0 ≡ e n → ((i : ℕ) × (i < n) × (falls (e 0) i ≡ true))
    → (i : ℕ) × (i < n) × (e i ≡ 0)
zero_met e falls n le lt ends q = ⊎_elim
    (λ z. (z.0, z.1, eqb-true _ _ z.2))
    (λ none.
    let ne : (i : ℕ) → i < n → e i ≢ 0 = λ i l. eqb-false _ _ (none i l) in
    absurd (omega (arith, ends, lower_after e falls n (λ i l. le i l (ne i l)) (λ i l. lt i l (ne i l)) q)))
    (find n (λ i. eqb (e i) 0))

-- sections numbered from the one after s on, so that next adds one except at s
along : ℕ → ℕ → ℕ → ℕ
along n s x = cond (leb x s) (x + n) x

along_low : (n s x : ℕ) → x ≤ s → along n s x ≡ x + n
unfolding along
along_low n s x h = rw (le-leb x s h) refl

along_high : (n s x : ℕ) → s < x → along n s x ≡ x
unfolding along
along_high n s x h = rw (lt-leb x s h) refl

along_next : (n s x : ℕ) → s < n → x < n → x ≢ s → along n s (next n x) ≡ suc (along n s x)
along_next n s x hs hx d = go (dec_lt (suc x) n) (dec_lt x s)
  where
    go : Dec (suc x < n) → Dec (x < s) → along n s (next n x) ≡ suc (along n s x)
    go (yes p) (yes q) = rw (next_step n x p, along_low n s (suc x) q, along_low n s x (omega arith)) (omega arith)
    go (yes p) (no q) = rw (next_step n x p, along_high n s (suc x) (omega arith), along_high n s x (omega arith)) (omega arith)
    go (no p) (yes q) = absurd (omega arith)
    go (no p) (no q) = rw (next_wrap n x (omega arith), along_low n s 0 (omega arith), along_high n s x (omega arith)) (omega arith)

-- a walk that goes on to the next section at each goal, meets a goal, and ends in the section where it began, meets a goal in each section
pub sections_met : (n : ℕ) (j : ℕ → ℕ) (goal : ℕ → Bool) (N : ℕ) → ((i : ℕ) → j i < n)
    → ((i : ℕ) → i < N → j (suc i) ≡ cond (goal i) (next n (j i)) (j i)) → j 0 ≡ j N → (i : ℕ) × (i < N) × (goal i ≡ true)
    → (s : ℕ) → s < n → (i : ℕ) × (i < N) × (goal i ≡ true) × (j i ≡ s)
sections_met n j goal N bound step ends g s hs = ⊎_elim
    (λ q. (q.0, q.1, and_l _ _ q.2, eqb-true _ _ (and_r _ _ q.2)))
    (λ none.
    let ne : (i : ℕ) → i < N → goal i ≡ true → j i ≢ s = λ i l t e. clash (none i l) (and_i t (eq-eqb (j i) s e)) in
    let moves : (i : ℕ) → i < N → goal i ≡ true → along n s (j (suc i)) ≡ suc (along n s (j i)) =
    λ i l t. rw (step i l, t) (along_next n s (j i) hs (bound i) (ne i l t)) in
    let stays : (i : ℕ) → i < N → goal i ≡ false → along n s (j (suc i)) ≡ along n s (j i) = λ i l t. rw (step i l, t) refl in
    let st =
    still_up (λ i. along n s (j i)) N (ap (along n s) ends)
    (λ i l. ⊎_elim (λ t. omega (arith, moves i l t)) (λ t. omega (arith, stays i l t)) (dec (goal i))) in
    absurd (omega (arith, moves g.0 g.1 g.2, st g.0 (omega (arith, g.1)), st (suc g.0) g.1)))
    (find N (λ i. and (goal i) (eqb (j i) s)))
