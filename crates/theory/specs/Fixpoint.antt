-- Iteration to a fixpoint, over any finite order: what it settles on is the largest fixpoint below its start, or the least above it.
use Rattle.std.specs.Prelude.{◌≡◌, Bool, true, cond}
use Rattle.std.proofs.Math.Path.{refl, ap}
use Rattle.std.proofs.Common.{sym, ◌∙◌}
use Rattle.std.proofs.Math.Bool.{false}
use Rattle.std.specs.Bool.{beq}
use Rattle.std.proofs.Math.Logic.{by_cases}
use Prim.Native.Nat.{ℕ, zero, suc, ◌-◌, ◌*◌, ◌≤◌, ◌<◌}
use native.Mathlib.Omega.{arith}
use Rattle.std.proofs.Math.Decide.{dec_le}
use Rattle.mask.specs.LogicLaws.{clash, cond_cases}
use Rattle.mask.specs.Bounded.{every, sum}
use Rattle.mask.specs.BoundedLaws.{every_at, every_of, sum_le, sum_eq, sum_const}
use Rattle.machine.specs.Iteration.{iterate, settle}

-- ---- iterates, in no order
module _ {X : Type 0} (F : X → X) where
  pub iterate_front : (n : ℕ) (s : X) → iterate n F (F s) ≡ F (iterate n F s)
  unfolding iterate
  iterate_front zero s = refl
  iterate_front (suc n) s = ap F (iterate_front n s)

  -- what F keeps, its iterates keep
  pub iterate_keeps : (P : X → Type 0) → ((x : X) → P x → P (F x)) → (n : ℕ) (s : X) → P s → P (iterate n F s)
  unfolding iterate
  iterate_keeps P k zero s h = h
  iterate_keeps P k (suc n) s h = k _ (iterate_keeps P k n s h)

  -- from a fixpoint on nothing changes
  pub iterate_stays : (t n : ℕ) (s : X) → F (iterate t F s) ≡ iterate t F s → t ≤ n → iterate n F s ≡ iterate t F s
  unfolding iterate
  iterate_stays t zero s e h = let z : t ≡ 0 = omega arith in rw z
  iterate_stays t (suc n) s e h =
      by_cases (dec_le t n) (λ l. ap F (iterate_stays t n s e l) ∙ e) (λ l. let z : t ≡ suc n = omega arith in rw z)

  -- what settles is one of the iterates
  pub settle_reaches : (same : X → X → Bool) (n : ℕ) (s : X) → (t : ℕ) × (t ≤ n) × (settle same n F s ≡ iterate t F s)
  unfolding settle iterate
  settle_reaches same zero s = (0, omega arith, refl)
  settle_reaches same (suc n) s =
      let q = settle_reaches same n (F s) in
      cond_cases (same s (F s)) (λ r. (t : ℕ) × (t ≤ suc n) × (r ≡ iterate t F s)) s (settle same n F (F s))
      (λ u. (0, omega arith, refl)) (λ u. (suc q.0, omega (arith, q.1), q.2 ∙ iterate_front q.0 s))

  pub settle_keeps : (P : X → Type 0) → ((x : X) → P x → P (F x)) → (same : X → X → Bool) (n : ℕ) (s : X) → P s → P (settle same n F s)
  settle_keeps P k same n s h = let q = settle_reaches same n s in rw q.2 (iterate_keeps P k q.0 s h)

-- ---- an order with a test of sameness and a size that sees every step
pub record Order (X : Type 0) : Type 1 where
  pub le : X → X → Type 0
  pub le_refl : (x : X) → le x x
  pub le_trans : (x y z : X) → le x y → le y z → le x z
  pub same : X → X → Bool
  pub same_le : (x y : X) → same x y ≡ true → le x y
  pub same_ge : (x y : X) → same x y ≡ true → le y x
  pub same_of : (x y : X) → le x y → le y x → same x y ≡ true
  pub size : X → ℕ
  pub room : ℕ
  pub size_room : (x : X) → size x ≤ room
  pub size_le : (x y : X) → le x y → size x ≤ size y
  pub size_eq : (x y : X) → le x y → size y ≤ size x → le y x

-- r is the largest fixpoint below s
pub record Settled {X : Type 0} (O : Order X) (F : X → X) (s r : X) : Type 0 where
  pub below : O.le r s
  pub down : O.le (F r) r
  pub up : O.le r (F r)
  pub largest : (u : X) → O.le u (F u) → O.le u s → O.le u r

module _ {X : Type 0} (O : Order X) (F : X → X) (mono : (x y : X) → O.le x y → O.le (F x) (F y)) where
  pub settle_is : (n : ℕ) (s : X) → O.le (F s) s → O.size s ≤ n → Settled O F s (settle O.same n F s)
  unfolding settle
  settle_is zero s d h =
      record { below = O.le_refl s; down = d; up = O.size_eq (F s) s d (omega (arith, O.size_le (F s) s d)); largest = λ u p q. q }
  settle_is (suc n) s d h =
      cond_cases (O.same s (F s)) (Settled O F s) s (settle O.same n F (F s))
      (λ t. record { below = O.le_refl s; down = d; up = O.same_le s (F s) t; largest = λ u p q. q })
      (λ t.
      let r = settle_is n (F s) (mono (F s) s d) (smaller (dec_le (O.size s) (O.size (F s))) t) in
      record {
        below = O.le_trans _ (F s) s r.below d;
        down = r.down;
        up = r.up;
        largest = λ u p q. r.largest u p (O.le_trans u (F u) (F s) p (mono u s q));
      })
    where
      smaller : Dec (O.size s ≤ O.size (F s)) → O.same s (F s) ≡ false → O.size (F s) ≤ n
      smaller (yes l) t = absurd (clash t (O.same_of s (F s) (O.size_eq (F s) s d l) d))
      smaller (no l) t = omega arith

  -- it lies below every iterate
  pub settled_below : {s r : X} → Settled O F s r → (i : ℕ) → O.le r (iterate i F s)
  unfolding iterate
  settled_below q zero = q.below
  settled_below q (suc i) = O.le_trans _ _ _ q.up (mono _ _ (settled_below q i))

  -- the iterates fall
  pub iterate_falls : (s : X) → O.le (F s) s → (i : ℕ) → O.le (iterate (suc i) F s) (iterate i F s)
  unfolding iterate
  iterate_falls s d zero = d
  iterate_falls s d (suc i) = mono _ _ (iterate_falls s d i)

  pub iterate_down : (s : X) → O.le (F s) s → (i n : ℕ) → i ≤ n → O.le (iterate n F s) (iterate i F s)
  iterate_down s d i zero h = let z : i ≡ 0 = omega arith in rw z (O.le_refl _)
  iterate_down s d i (suc n) h =
      by_cases (dec_le i n) (λ l. O.le_trans _ _ _ (iterate_falls s d n) (iterate_down s d i n l))
      (λ l. let z : i ≡ suc n = omega arith in rw z (O.le_refl _))

  -- and the n-th lies below what settles within n
  pub settle_last : (n : ℕ) (s : X) → O.le (F s) s → O.le (iterate n F s) (settle O.same n F s)
  settle_last n s d = let q = settle_reaches F O.same n s in rw q.2 (iterate_down s d q.0 n q.1)

-- ---- the other way up: the same theorems give the least fixpoint
unfoldable pub Upside : {X : Type 0} → Order X → Order X
Upside O = record {
  le = λ x y. O.le y x;
  le_refl = O.le_refl;
  le_trans = λ x y z p q. O.le_trans z y x q p;
  same = O.same;
  same_le = O.same_ge;
  same_ge = O.same_le;
  same_of = λ x y p q. O.same_of x y q p;
  size = λ x. O.room - O.size x;
  room = O.room;
  size_room = λ x. omega arith;
  size_le = λ x y p. omega (arith, O.size_le y x p, O.size_room x);
  size_eq = λ x y p h. O.size_eq y x p (omega (arith, O.size_room x, O.size_room y));
}

-- ---- tests in order: false below true
pub beq_is : (x y : Bool) → beq x y ≡ true → x ≡ y
beq_is true true t = refl
beq_is true false t = sym t
beq_is false true t = t
beq_is false false t = refl

pub beq_of : (x y : Bool) → (x ≡ true → y ≡ true) → (y ≡ true → x ≡ true) → beq x y ≡ true
beq_of true y t u = rw (t refl)
beq_of false true t u = u refl
beq_of false false t u = refl

pub bit_le : (x : Bool) → cond x 1 0 ≤ 1
bit_le true = omega arith
bit_le false = omega arith

pub bit_mono : (x y : Bool) → (x ≡ true → y ≡ true) → cond x 1 0 ≤ cond y 1 0
bit_mono true y t = rw (t refl) (omega arith)
bit_mono false y t = omega arith

pub bit_eq : (x y : Bool) → (x ≡ true → y ≡ true) → cond y 1 0 ≤ cond x 1 0 → y ≡ true → x ≡ true
bit_eq true y t h u = refl
bit_eq false true t h u = absurd (omega arith)
bit_eq false false t h u = u

unfoldable pub Test : Order Bool
Test = record {
  le = λ x y. x ≡ true → y ≡ true;
  le_refl = λ x t. t;
  le_trans = λ x y z p q t. q (p t);
  same = beq;
  same_le = λ x y t u. sym (beq_is x y t) ∙ u;
  same_ge = λ x y t u. beq_is x y t ∙ u;
  same_of = beq_of;
  size = λ x. cond x 1 0;
  room = 1;
  size_room = bit_le;
  size_le = bit_mono;
  size_eq = bit_eq;
}

-- ---- n of an order, read by `read`, in order place by place
module _ {X Y : Type 0} (n : ℕ) (read : Y → ℕ → X) (O : Order X) where
  unfoldable pub Fam : Order Y
  Fam = record {
    le = λ s t. (i : ℕ) → i < n → O.le (read s i) (read t i);
    le_refl = λ s i l. O.le_refl (read s i);
    le_trans = λ s t u p q i l. O.le_trans (read s i) (read t i) (read u i) (p i l) (q i l);
    same = λ s t. every n (λ i. O.same (read s i) (read t i));
    same_le = λ s t h i l. O.same_le (read s i) (read t i) (every_at n _ h i l);
    same_ge = λ s t h i l. O.same_ge (read s i) (read t i) (every_at n _ h i l);
    same_of = λ s t p q. every_of n _ (λ i l. O.same_of (read s i) (read t i) (p i l) (q i l));
    size = λ s. sum n (λ i. O.size (read s i));
    room = sum n (λ i. O.room);
    size_room = λ s. sum_le n _ _ (λ i l. O.size_room (read s i));
    size_le = λ s t p. sum_le n _ _ (λ i l. O.size_le (read s i) (read t i) (p i l));
    size_eq = λ s t p h i l. O.size_eq (read s i) (read t i) (p i l)
        (sum_eq n (λ k. O.size (read s k)) (λ k. O.size (read t k)) (λ k m. O.size_le (read s k) (read t k) (p k m)) h i l);
  }

  pub Fam_room : Fam.room ≡ n * O.room
  unfolding Fam
  Fam_room = sum_const n O.room
