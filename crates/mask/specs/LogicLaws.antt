-- Laws of tests. A test's truth is `b ≡ true`.
use Rattle.std.specs.Prelude.{◌≡◌, refl, ◌⊎◌, Bool, true, false, cond, ℕ, suc, ◌<◌}
use Rattle.std.proofs.Common.{sym, subst, ◌∙◌, inl, inr, arith}
use Rattle.std.proofs.Math.Bool as B
use Rattle.std.proofs.lemmas.Bool.{false≢true}
use Rattle.std.proofs.Math.Decide.{dec_lt}
use Rattle.mask.specs.Logic.{not, and, or}

pub dec : (b : Bool) → (b ≡ true) ⊎ (b ≡ false)
dec true = inl refl
dec false = inr refl

pub clash : {b : Bool} → b ≡ false → b ≡ true → ⊥
clash p q = false≢true (sym p ∙ q)

-- what is not true is false
pub refute : (b : Bool) → (b ≡ true → ⊥) → b ≡ false
refute true f = absurd (f refl)
refute false f = refl

pub both : (a b : Bool) → (a ≡ true → b ≡ true) → (b ≡ true → a ≡ true) → a ≡ b
both true b f g = sym (f refl)
both false true f g = g refl
both false false f g = refl

pub cond_cases : {X : Type 0} (b : Bool) (P : X → Type 0) (x y : X) → (b ≡ true → P x) → (b ≡ false → P y) → P (cond b x y)
cond_cases true P x y p q = p refl
cond_cases false P x y p q = q refl

pub and_l : (a b : Bool) → and a b ≡ true → a ≡ true
unfolding and
and_l true b h = refl
and_l false b h = h

pub and_r : (a b : Bool) → and a b ≡ true → b ≡ true
unfolding and
and_r true b h = h
and_r false b h = absurd (false≢true h)

pub and_i : {a b : Bool} → a ≡ true → b ≡ true → and a b ≡ true
unfolding and
and_i p q = rw (p, q)

pub and_false_l : {a : Bool} (b : Bool) → a ≡ false → and a b ≡ false
unfolding and
and_false_l b p = rw p

pub and_false_r : (a : Bool) {b : Bool} → b ≡ false → and a b ≡ false
unfolding and
and_false_r true p = p
and_false_r false p = refl

pub and_true_l : {a : Bool} (b : Bool) → a ≡ true → and a b ≡ b
unfolding and
and_true_l b p = rw p

pub and_true_r : (a : Bool) {b : Bool} → b ≡ true → and a b ≡ a
unfolding and
and_true_r true p = p
and_true_r false p = refl

pub or_l : {a : Bool} (b : Bool) → a ≡ true → or a b ≡ true
unfolding or
or_l b p = rw p

pub or_r : (a : Bool) {b : Bool} → b ≡ true → or a b ≡ true
unfolding or
or_r true p = refl
or_r false p = p

pub or_e : {a b : Bool} → or a b ≡ true → (a ≡ true) ⊎ (b ≡ true)
unfolding or
or_e {a = true} p = inl refl
or_e {a = false} p = inr p

pub or_false : {a b : Bool} → a ≡ false → b ≡ false → or a b ≡ false
unfolding or
or_false p q = rw (p, q)

pub or_false_l : {a : Bool} (b : Bool) → a ≡ false → or a b ≡ b
unfolding or
or_false_l b p = rw p

pub or_false_r : (a : Bool) {b : Bool} → b ≡ false → or a b ≡ a
unfolding or
or_false_r true p = refl
or_false_r false p = p

-- both are false where the disjunction is
pub or_none : (a b : Bool) → or a b ≡ false → (a ≡ false) × (b ≡ false)
unfolding or
or_none true b p = absurd (false≢true (sym p))
or_none false b p = (refl, p)

pub not_e : (a : Bool) → not a ≡ true → a ≡ false
unfolding not
not_e true p = sym p
not_e false p = refl

pub not_i : {a : Bool} → a ≡ false → not a ≡ true
unfolding not
not_i p = rw p

pub not_f : {a : Bool} → a ≡ true → not a ≡ false
unfolding not
not_f p = rw p

pub not_false : (a : Bool) → not a ≡ false → a ≡ true
unfolding not
not_false true p = refl
not_false false p = sym p

pub not_not : (a : Bool) → not (not a) ≡ a
unfolding not
not_not true = refl
not_not false = refl

pub not_or : (a b : Bool) → not (or a b) ≡ and (not a) (not b)
unfolding not or and
not_or true b = refl
not_or false b = refl

pub not_and : (a b : Bool) → not (and a b) ≡ or (not a) (not b)
unfolding not or and
not_and true b = refl
not_and false b = refl

pub and_comm : (a b : Bool) → and a b ≡ and b a
unfolding and
and_comm true true = refl
and_comm true false = refl
and_comm false true = refl
and_comm false false = refl

-- the library's test, as the code's `!` gives it
pub not_is : (a : Bool) → not a ≡ B.not a
unfolding not
not_is true = refl
not_is false = refl

-- what holds below n and at n holds below n + 1
pub below_suc : (n : ℕ) (P : ℕ → Type 0) → ((i : ℕ) → i < n → P i) → P n → (i : ℕ) → i < suc n → P i
below_suc n P h p i l = go (dec_lt i n)
  where
    go : Dec (i < n) → P i
    go (yes m) = h i m
    go (no m) = let e : n ≡ i = omega arith in subst P e p
