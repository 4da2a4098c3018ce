-- Laws of the bits of a mask, for any width.
use Rattle.std.specs.Prelude.{true, false, ◌⊎◌, ◌≡◌, refl, ℕ, zero, suc, ◌+◌, ◌-◌, ◌*◌, ◌/◌, ◌%◌, ◌^◌, ◌≤◌, ◌<◌, min, max, eqb, ltb}
use Rattle.std.proofs.Common.{inl, inr, ⊎_elim, sym, ap, ◌∙◌, zero-le, div-one, one-mul, pow-suc, arith, pow_mono, pow_pos, shl_exact, lt-ltb, le-ltb}
use Rattle.std.proofs.Math.Nat.{div-div-eq-div-mul, pow-succ', min-zero, zero-min}
use Rattle.std.proofs.Math.Decide.{dec_lt}
use Rattle.std.proofs.Math.Dec.{eqb-suc-suc, eqb-zero-suc, eqb-suc-zero}
use Rattle.std.specs.Int.Bits.{bit_and, bit_or, and_step, and_self, or_step}
use Rattle.std.proofs.lemmas.Nat.{and_le_r, trailing_le}
use Rattle.std.specs.Int.Count.{count_trailing_zeros, under}
use Rattle.mask.specs.Logic.{not, and, or}
use Rattle.mask.specs.LogicLaws.{clash, and_true_r, not_i}
use Rattle.mask.specs.Bits.{has_bit, lowest_of, rest_of, with_bit, full_mask}

pub has_zero : (m : ℕ) → has_bit m 0 ≡ eqb (m % 2) 1
unfolding has_bit
has_zero m = ap (λ (x : ℕ). eqb (x % 2) 1) (div-one m)

pub has_suc : (m i : ℕ) → has_bit m (suc i) ≡ has_bit (m / 2) i
unfolding has_bit
has_suc m i = ap (λ (x : ℕ). eqb (x % 2) 1) (ap (λ (x : ℕ). m / x) (pow-succ' 2 i) ∙ sym (div-div-eq-div-mul m 2 (2 ^ i)))

pub parity : (m : ℕ) → (m % 2 ≡ 0) ⊎ (m % 2 ≡ 1)
parity m = go (m % 2) refl
  where
    go : (r : ℕ) → m % 2 ≡ r → (m % 2 ≡ 0) ⊎ (m % 2 ≡ 1)
    go zero e = inl e
    go (suc r) e = inr (omega arith)

pub has_even : (m : ℕ) → m % 2 ≡ 0 → has_bit m 0 ≡ false
has_even m e = rw (has_zero, e)

pub has_odd : (m : ℕ) → m % 2 ≡ 1 → has_bit m 0 ≡ true
has_odd m e = rw (has_zero, e)

half_small : (w m : ℕ) → m < 2 ^ suc w → m / 2 < 2 ^ w
half_small w m h = let h2 : m < 2 ^ w * 2 = rw pow-suc at h in omega arith

-- ---- beyond the width
-- a number of w bits has no state from w on
pub has_beyond : (w m i : ℕ) → m < 2 ^ w → w ≤ i → has_bit m i ≡ false
has_beyond zero m zero h k = has_even m (omega arith)
has_beyond zero m (suc i) h k = rw has_suc (has_beyond zero (m / 2) i (omega arith) (omega arith))
has_beyond (suc w) m zero h k = absurd (omega arith)
has_beyond (suc w) m (suc i) h k = rw has_suc (has_beyond w (m / 2) i (half_small w m h) (omega arith))

pub has_none : (i : ℕ) → has_bit 0 i ≡ false
has_none i = has_beyond 0 0 i (omega arith) zero-le

-- a state of a mask of w bits is below w
pub has_lt : (w m i : ℕ) → m < 2 ^ w → has_bit m i ≡ true → i < w
has_lt w m i h e = go (dec_lt i w)
  where
    go : Dec (i < w) → i < w
    go (yes q) = q
    go (no q) = absurd (clash (has_beyond w m i h (omega arith)) e)

-- masks of w bits are equal by their states
odd_eq : (a b : ℕ) → has_bit a 0 ≡ has_bit b 0 → a % 2 ≡ b % 2
odd_eq a b e = ⊎_elim
    (λ x. ⊎_elim (λ y. x ∙ sym y) (λ y. absurd (clash (has_even a x) (e ∙ has_odd b y))) (parity b))
    (λ x. ⊎_elim (λ y. absurd (clash (has_even b y) (sym e ∙ has_odd a x))) (λ y. x ∙ sym y) (parity b))
    (parity a)

pub mask_ext : (w a b : ℕ) → a < 2 ^ w → b < 2 ^ w → ((i : ℕ) → i < w → has_bit a i ≡ has_bit b i) → a ≡ b
mask_ext zero a b ha hb h = omega arith
mask_ext (suc w) a b ha hb h =
    let up : a / 2 ≡ b / 2 =
    mask_ext w (a / 2) (b / 2) (half_small w a ha) (half_small w b hb) (λ i l. sym (has_suc a i) ∙ h (suc i) (omega arith) ∙ has_suc b i) in
    omega (arith, odd_eq a b (h 0 (omega arith)))

width_of : (n : ℕ) → n < 2 ^ n
width_of zero = omega arith
width_of (suc n) = rw pow-suc (omega (arith, width_of n))

-- and numbers of any width by all their bits
pub bits_ext : (a b : ℕ) → ((i : ℕ) → has_bit a i ≡ has_bit b i) → a ≡ b
bits_ext a b h =
    mask_ext (a + b) a b (omega (arith, width_of a, pow_mono {i = a} {j = a + b} (omega arith))) (omega (arith, width_of b, pow_mono {i = b} {j = a + b} (omega arith)))
    (λ i l. h i)

-- a mask whose states all lie below w is a number of w bits
pub has_small : (v w m : ℕ) → m < 2 ^ v → ((i : ℕ) → w ≤ i → i < v → has_bit m i ≡ false) → m < 2 ^ w
has_small zero w m h b = omega (arith, pow_pos w)
has_small (suc v) zero m h b =
    let half : m / 2 < 2 ^ 0 =
    has_small v zero (m / 2) (half_small v m h) (λ i l k. sym (has_suc m i) ∙ b (suc i) (omega arith) (omega arith)) in
    ⊎_elim (λ e. omega arith) (λ e. absurd (clash (b 0 (omega arith) (omega arith)) (has_odd m e))) (parity m)
has_small (suc v) (suc w) m h b =
    let half : m / 2 < 2 ^ w =
    has_small v w (m / 2) (half_small v m h) (λ i l k. sym (has_suc m i) ∙ b (suc i) (omega arith) (omega arith)) in
    rw pow-suc (omega arith)

-- a number of w bits of which none is set is 0
pub no_bits_zero : (w m : ℕ) → m < 2 ^ w → ((i : ℕ) → i < w → has_bit m i ≡ false) → m ≡ 0
no_bits_zero w m h b = let z : m < 2 ^ 0 = has_small w 0 m h (λ i l k. b i k) in omega arith

-- ---- the lowest state
lowest_even : (w m : ℕ) → m % 2 ≡ 0 → lowest_of (suc w) m ≡ suc (lowest_of w (m / 2))
unfolding lowest_of count_trailing_zeros
lowest_even w m e = ap (λ (d : ℕ). under d (count_trailing_zeros w (m / 2))) e

lowest_odd : (w m : ℕ) → m % 2 ≡ 1 → lowest_of (suc w) m ≡ 0
unfolding lowest_of count_trailing_zeros
lowest_odd w m e = ap (λ (d : ℕ). under d (count_trailing_zeros w (m / 2))) e

-- the lowest state is in the mask
pub lowest_set : (w m : ℕ) → 0 < m → m < 2 ^ w → has_bit m (lowest_of w m) ≡ true
lowest_set zero m p h = absurd (omega arith)
lowest_set (suc w) m p h = go (λ q. lowest_set w (m / 2) q (half_small w m h)) (parity m)
  where
    go : (0 < m / 2 → has_bit (m / 2) (lowest_of w (m / 2)) ≡ true) → (m % 2 ≡ 0) ⊎ (m % 2 ≡ 1) → has_bit m (lowest_of (suc w) m) ≡ true
    go ih (inl e) = rw (lowest_even w m e, has_suc) (ih (omega arith))
    go ih (inr e) = rw (lowest_odd w m e) (has_odd m e)

-- no lower state is in it
pub lowest_least : (w m i : ℕ) → i < lowest_of w m → has_bit m i ≡ false
unfolding lowest_of count_trailing_zeros
lowest_least zero m i h = absurd (omega arith)
lowest_least (suc w) m zero h = go (parity m)
  where
    go : (m % 2 ≡ 0) ⊎ (m % 2 ≡ 1) → has_bit m 0 ≡ false
    go (inl e) = has_even m e
    go (inr e) = absurd (omega (arith, lowest_odd w m e))
lowest_least (suc w) m (suc i) h = go (λ q. lowest_least w (m / 2) i q) (parity m)
  where
    go : (i < lowest_of w (m / 2) → has_bit (m / 2) i ≡ false) → (m % 2 ≡ 0) ⊎ (m % 2 ≡ 1) → has_bit m (suc i) ≡ false
    go ih (inl e) = rw has_suc (ih (omega (arith, lowest_even w m e)))
    go ih (inr e) = absurd (omega (arith, lowest_odd w m e))

pub lowest_le : (w m : ℕ) → lowest_of w m ≤ w
unfolding lowest_of
lowest_le w m = trailing_le w m

pub lowest_lt : (w m : ℕ) → 0 < m → m < 2 ^ w → lowest_of w m < w
lowest_lt w m p h = has_lt w m (lowest_of w m) h (lowest_set w m p h)

-- the width at which a mask is read makes no difference
pub lowest_width : (v w m : ℕ) → 0 < m → m < 2 ^ v → m < 2 ^ w → lowest_of v m ≡ lowest_of w m
lowest_width v w m p h k =
    ⊎_elim (λ l. absurd (clash (lowest_least w m (lowest_of v m) l) (lowest_set v m p h)))
    (λ l. ⊎_elim (λ q. absurd (clash (lowest_least v m (lowest_of w m) q) (lowest_set w m p k))) (λ q. omega arith) (either (lowest_of w m) (lowest_of v m)))
    (either (lowest_of v m) (lowest_of w m))
  where
    either : (a b : ℕ) → (a < b) ⊎ (b ≤ a)
    either a b = go (dec_lt a b)
      where
        go : Dec (a < b) → (a < b) ⊎ (b ≤ a)
        go (yes l) = inl l
        go (no l) = inr (omega arith)

-- ---- the mask without its lowest state
rest_even : (m : ℕ) → 0 < m → m % 2 ≡ 0 → rest_of m ≡ rest_of (m / 2) * 2
unfolding rest_of
rest_even m p e =
    let a : (m - 1) / 2 ≡ m / 2 - 1 = omega arith in
    rw (and_step m (m - 1), a, e, zero-min) (omega arith)

rest_odd : (m : ℕ) → m % 2 ≡ 1 → rest_of m ≡ m / 2 * 2
unfolding rest_of
rest_odd m e =
    let a : (m - 1) / 2 ≡ m / 2 = omega arith in
    let b : (m - 1) % 2 ≡ 0 = omega arith in
    rw (and_step m (m - 1), a, b, min-zero, and_self) (omega arith)

double_half : (n : ℕ) → n * 2 / 2 ≡ n
double_half n = omega arith

has_double_zero : (n : ℕ) → has_bit (n * 2) 0 ≡ false
has_double_zero n = has_even (n * 2) (omega arith)

has_double_suc : (n i : ℕ) → has_bit (n * 2) (suc i) ≡ has_bit n i
has_double_suc n i = rw (has_suc, double_half)

-- the rest has exactly the other states
pub has_rest : (w m i : ℕ) → 0 < m → m < 2 ^ w → has_bit (rest_of m) i ≡ and (has_bit m i) (not (eqb i (lowest_of w m)))
unfolding and not
has_rest zero m i p h = absurd (omega arith)
has_rest (suc w) m zero p h = go (parity m)
  where
    go : (m % 2 ≡ 0) ⊎ (m % 2 ≡ 1) → has_bit (rest_of m) 0 ≡ and (has_bit m 0) (not (eqb 0 (lowest_of (suc w) m)))
    go (inl e) = rw (rest_even m p e, has_double_zero, has_even m e)
    go (inr e) = rw (rest_odd m e, has_double_zero, lowest_odd w m e, has_odd m e)
has_rest (suc w) m (suc i) p h = go (λ q. has_rest w (m / 2) i q (half_small w m h)) (parity m)
  where
    go : (0 < m / 2 → has_bit (rest_of (m / 2)) i ≡ and (has_bit (m / 2) i) (not (eqb i (lowest_of w (m / 2))))) → (m % 2 ≡ 0) ⊎ (m % 2 ≡ 1)
        → has_bit (rest_of m) (suc i) ≡ and (has_bit m (suc i)) (not (eqb (suc i) (lowest_of (suc w) m)))
    go ih (inl e) = rw (rest_even m p e, has_double_suc, has_suc, lowest_even w m e, eqb-suc-suc) (ih (omega arith))
    go ih (inr e) = rw (rest_odd m e, has_double_suc, has_suc, lowest_odd w m e, eqb-suc-zero) (sym (and_true_r (has_bit (m / 2) i) (not_i refl)))

pub rest_lt : (m : ℕ) → 0 < m → rest_of m < m
unfolding rest_of
rest_lt m p = omega (arith, and_le_r m (m - 1))

-- ---- joined and common states
max_bits : (a b : ℕ) → eqb (max (a % 2) (b % 2)) 1 ≡ or (eqb (a % 2) 1) (eqb (b % 2) 1)
unfolding or
max_bits a b = go (parity a) (parity b)
  where
    go : (a % 2 ≡ 0) ⊎ (a % 2 ≡ 1) → (b % 2 ≡ 0) ⊎ (b % 2 ≡ 1) → eqb (max (a % 2) (b % 2)) 1 ≡ or (eqb (a % 2) 1) (eqb (b % 2) 1)
    go (inl e) (inl f) = rw (e, f)
    go (inl e) (inr f) = rw (e, f)
    go (inr e) (inl f) = rw (e, f)
    go (inr e) (inr f) = rw (e, f)

min_bits : (a b : ℕ) → eqb (min (a % 2) (b % 2)) 1 ≡ and (eqb (a % 2) 1) (eqb (b % 2) 1)
unfolding and
min_bits a b = go (parity a) (parity b)
  where
    go : (a % 2 ≡ 0) ⊎ (a % 2 ≡ 1) → (b % 2 ≡ 0) ⊎ (b % 2 ≡ 1) → eqb (min (a % 2) (b % 2)) 1 ≡ and (eqb (a % 2) 1) (eqb (b % 2) 1)
    go (inl e) (inl f) = rw (e, f)
    go (inl e) (inr f) = rw (e, f)
    go (inr e) (inl f) = rw (e, f)
    go (inr e) (inr f) = rw (e, f)

pub has_and : (i a b : ℕ) → has_bit (bit_and a b) i ≡ and (has_bit a i) (has_bit b i)
has_and zero a b =
    let e : (bit_and (a / 2) (b / 2) * 2 + min (a % 2) (b % 2)) % 2 ≡ min (a % 2) (b % 2) = omega arith in
    rw (has_zero, has_zero, has_zero, and_step, e) (min_bits a b)
has_and (suc i) a b =
    let e : (bit_and (a / 2) (b / 2) * 2 + min (a % 2) (b % 2)) / 2 ≡ bit_and (a / 2) (b / 2) = omega arith in
    rw (has_suc, has_suc, has_suc, and_step, e) (has_and i (a / 2) (b / 2))

pub has_or : (i a b : ℕ) → has_bit (bit_or a b) i ≡ or (has_bit a i) (has_bit b i)
has_or zero a b =
    let e : (bit_or (a / 2) (b / 2) * 2 + max (a % 2) (b % 2)) % 2 ≡ max (a % 2) (b % 2) = omega arith in
    rw (has_zero, has_zero, has_zero, or_step, e) (max_bits a b)
has_or (suc i) a b =
    let e : (bit_or (a / 2) (b / 2) * 2 + max (a % 2) (b % 2)) / 2 ≡ bit_or (a / 2) (b / 2) = omega arith in
    rw (has_suc, has_suc, has_suc, or_step, e) (has_or i (a / 2) (b / 2))

-- ---- one state
-- the mask of one state, as the code's shift makes it
pub one_shl : (n : ℕ) → n < 64 → 1 * 2 ^ n % 2 ^ 64 ≡ 2 ^ n
one_shl n h = shl_exact {a = 1} 1 n 64 (omega arith) (omega arith) ∙ one-mul (2 ^ n)

pub has_power : (s i : ℕ) → has_bit (2 ^ s) i ≡ eqb i s
has_power zero zero = has_odd 1 refl
has_power zero (suc i) = rw (has_suc, has_none, eqb-suc-zero)
has_power (suc s) zero = rw (has_even (2 ^ suc s) (rw pow-suc (omega arith)), eqb-zero-suc)
has_power (suc s) (suc i) =
    let e : 2 ^ s * 2 / 2 ≡ 2 ^ s = omega arith in
    rw (has_suc, pow-suc, e, eqb-suc-suc) (has_power s i)

pub has_with : (m s i : ℕ) → s < 64 → has_bit (with_bit m s) i ≡ or (has_bit m i) (eqb i s)
unfolding with_bit
has_with m s i h = rw (lt-ltb s 64 h, has_or, has_power)

-- ---- all states below a width
pub has_full : (w i : ℕ) → has_bit (full_mask w) i ≡ ltb i w
unfolding full_mask
has_full zero i = rw (has_none, le-ltb i 0 zero-le)
has_full (suc w) zero =
    let p : 0 < 2 ^ w = pow_pos w in
    let e : (2 ^ w * 2 - 1) % 2 ≡ 1 = omega arith in
    rw (pow-suc, has_odd (2 ^ w * 2 - 1) e, lt-ltb 0 (suc w) (omega arith))
has_full (suc w) (suc i) =
    let p : 0 < 2 ^ w = pow_pos w in
    let e : (2 ^ w * 2 - 1) / 2 ≡ 2 ^ w - 1 = omega arith in
    rw (pow-suc, has_suc, e, has_full w i) (shift (dec_lt i w))
  where
    shift : Dec (i < w) → ltb i w ≡ ltb (suc i) (suc w)
    shift (yes l) = rw (lt-ltb i w l, lt-ltb (suc i) (suc w) (omega arith))
    shift (no l) = rw (le-ltb i w (omega arith), le-ltb (suc i) (suc w) (omega arith))

pub full_lt : (w : ℕ) → full_mask w < 2 ^ w
unfolding full_mask
full_lt w = omega (arith, pow_pos w)
