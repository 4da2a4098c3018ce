-- Laws of masks and lists made from a test or a function, and of a list that is filled one store a turn.
use Rattle.std.specs.Prelude.{Bool, true, false, cond, ◌⊎◌, ◌≡◌, refl, List, [], ◌∷◌, ◌++◌, ℕ, zero, suc, ◌+◌, ◌*◌, ◌/◌, ◌%◌, ◌^◌, ◌≤◌, ◌<◌, eqb, ltb, length, get_or, set}
use Rattle.std.proofs.Common.{inl, inr, sym, ap, ap₂, ◌∙◌, zero-le, eq-or-lt_of_le, pow-suc, zero-add, add-zero, suc-add, one-mul, arith, get_or-set_same, get_or-set_other, ext_get_or, lt-ltb, le-ltb, ne_eqb, eq-eqb}
use Rattle.std.proofs.Math.Decide.{dec_lt, ℕ_discrete}
use Rattle.std.proofs.Math.Dec.{eqb-suc-suc, eqb-suc-zero, eqb-zero-suc}
use Rattle.std.proofs.Math.ListN.{get_or-eq_default}
use Rattle.std.specs.Int.Bits.{bit_or, or_shifted_r}
use Rattle.mask.specs.Logic.{and, or}
use Rattle.mask.specs.LogicLaws.{cond_cases, and_true_l, and_false_l, and_false_r, or_false_l, or_l}
use Rattle.mask.specs.Bits.{has_bit, with_bit}
use Rattle.mask.specs.BitsLaws.{has_zero, has_suc, has_odd, has_none, mask_ext}
use Rattle.mask.specs.Tables.{mask_of, table}

-- ---- table
pub table_length : {A : Type 0} (n : ℕ) (f : ℕ → A) → length (table n f) ≡ n
unfolding table
table_length zero f = refl
table_length (suc n) f = ap suc (table_length n (λ i. f (suc i)))

pub table_at : {A : Type 0} (n : ℕ) (f : ℕ → A) (i : ℕ) (d : A) → i < n → get_or (table n f) i d ≡ f i
unfolding table
table_at zero f i d h = absurd (omega arith)
table_at (suc n) f zero d h = refl
table_at (suc n) f (suc i) d h = table_at n (λ i. f (suc i)) i d (omega arith)

pub table_past : {A : Type 0} (n : ℕ) (f : ℕ → A) (i : ℕ) (d : A) → n ≤ i → get_or (table n f) i d ≡ d
table_past n f i d h = get_or-eq_default (table n f) d (rw (table_length n f) h)

pub table_cong : {A : Type 0} (n : ℕ) (f g : ℕ → A) → ((i : ℕ) → i < n → f i ≡ g i) → table n f ≡ table n g
unfolding table
table_cong zero f g h = refl
table_cong (suc n) f g h = ap₂ ◌∷◌ (h 0 (omega arith)) (table_cong n (λ i. f (suc i)) (λ i. g (suc i)) (λ i l. h (suc i) (omega arith)))

-- a table in two parts
pub table_append : {A : Type 0} (m n : ℕ) (f : ℕ → A) → table (m + n) f ≡ table m f ++ table n (λ i. f (m + i))
unfolding table
table_append zero n f = rw zero-add (table_cong n f (λ i. f (0 + i)) (λ i h. ap f (sym (zero-add i))))
table_append {A} (suc m) n f =
    rw suc-add (ap (λ (l : List A). f 0 ∷ l) (table_append m n (λ i. f (suc i)) ∙ ap (λ (l : List A). table m (λ i. f (suc i)) ++ l) (table_cong n _ _ (λ i h. ap f (sym (suc-add m i))))))

pub table_snoc : {A : Type 0} (n : ℕ) (f : ℕ → A) → table (n + 1) f ≡ table n f ++ (f n ∷ [])
unfolding table
table_snoc {A} n f = table_append n 1 f ∙ ap (λ (x : A). table n f ++ (x ∷ [])) (ap f (add-zero n))

-- ---- mask_of
pub mask_of_lt : (w : ℕ) (p : ℕ → Bool) → mask_of w p < 2 ^ w
unfolding mask_of
mask_of_lt zero p = omega arith
mask_of_lt (suc w) p =
    cond_cases (p w) (λ x. x + mask_of w p < 2 ^ suc w) (2 ^ w) 0 (λ t. rw pow-suc (omega (arith, mask_of_lt w p))) (λ t. rw pow-suc (omega (arith, mask_of_lt w p)))

-- adding the state w to a mask of states below w
pub has_top : (w m i : ℕ) → m < 2 ^ w → has_bit (2 ^ w + m) i ≡ or (eqb i w) (has_bit m i)
unfolding or
has_top zero m zero h = let e : m ≡ 0 = omega arith in rw e (has_odd 1 refl)
has_top zero m (suc i) h =
    let e : (1 + m) / 2 ≡ 0 = omega arith in
    let f : m / 2 ≡ 0 = omega arith in
    rw (has_suc, has_suc, e, f, eqb-suc-zero)
has_top (suc w) m zero h =
    let e : (2 ^ w * 2 + m) % 2 ≡ m % 2 = omega arith in
    rw (pow-suc, has_zero, has_zero, e, eqb-zero-suc)
has_top (suc w) m (suc i) h =
    let k : m < 2 ^ w * 2 = rw pow-suc at h in
    let e : (2 ^ w * 2 + m) / 2 ≡ 2 ^ w + m / 2 = omega arith in
    rw (pow-suc, has_suc, has_suc, e, eqb-suc-suc) (has_top w (m / 2) i (omega arith))

pub has_mask_of : (w : ℕ) (p : ℕ → Bool) (i : ℕ) → has_bit (mask_of w p) i ≡ and (ltb i w) (p i)
unfolding mask_of
has_mask_of zero p i = rw (has_none) (sym (and_false_l _ (le-ltb i 0 zero-le)))
has_mask_of (suc w) p i =
    cond_cases (p w) (λ x. has_bit (x + mask_of w p) i ≡ and (ltb i (suc w)) (p i)) (2 ^ w) 0
    (λ t. rw (has_top w (mask_of w p) i (mask_of_lt w p), has_mask_of w p i) (top (dec_lt i w) (ℕ_discrete i w) t))
    (λ t. rw (zero-add, has_mask_of w p i) (low (dec_lt i w) (ℕ_discrete i w) t))
  where
    top : Dec (i < w) → Dec (i ≡ w) → p w ≡ true → or (eqb i w) (and (ltb i w) (p i)) ≡ and (ltb i (suc w)) (p i)
    top (yes l) d t = rw (ne_eqb i w (omega arith), lt-ltb i w l, lt-ltb i (suc w) (omega arith)) (or_false_l _ refl)
    top (no l) (yes e) t = rw (eq-eqb i w e, lt-ltb i (suc w) (omega arith)) (or_l _ refl ∙ sym (ap p e ∙ t) ∙ sym (and_true_l _ refl))
    top (no l) (no e) t = rw (ne_eqb i w e, le-ltb i w (omega arith), le-ltb i (suc w) (omega arith)) (or_false_l _ refl)

    low : Dec (i < w) → Dec (i ≡ w) → p w ≡ false → and (ltb i w) (p i) ≡ and (ltb i (suc w)) (p i)
    low (yes l) d t = rw (lt-ltb i w l, lt-ltb i (suc w) (omega arith))
    low (no l) (yes e) t = and_false_r (ltb i w) (ap p e ∙ t) ∙ sym (and_false_r (ltb i (suc w)) (ap p e ∙ t))
    low (no l) (no e) t = rw (le-ltb i w (omega arith), le-ltb i (suc w) (omega arith))

pub has_mask_of_at : (w : ℕ) (p : ℕ → Bool) (i : ℕ) → i < w → has_bit (mask_of w p) i ≡ p i
has_mask_of_at w p i h = has_mask_of w p i ∙ and_true_l _ (lt-ltb i w h)

pub mask_of_cong : (w : ℕ) (p q : ℕ → Bool) → ((i : ℕ) → i < w → p i ≡ q i) → mask_of w p ≡ mask_of w q
unfolding mask_of
mask_of_cong zero p q h = refl
mask_of_cong (suc w) p q h = ap₂ (λ (b : Bool) (m : ℕ). cond b (2 ^ w) 0 + m) (h w (omega arith)) (mask_of_cong w p q (λ i l. h i (omega arith)))

-- one state more, as a loop makes a mask
pub mask_of_hit : (w : ℕ) (p : ℕ → Bool) → w < 64 → p w ≡ true → with_bit (mask_of w p) w ≡ mask_of (suc w) p
unfolding mask_of with_bit
mask_of_hit w p h t =
    rw (lt-ltb w 64 h, t, ap (bit_or (mask_of w p)) (sym (one-mul (2 ^ w))), or_shifted_r 1 w (mask_of w p) (mask_of_lt w p), one-mul)

pub mask_of_miss : (w : ℕ) (p : ℕ → Bool) → p w ≡ false → mask_of w p ≡ mask_of (suc w) p
unfolding mask_of
mask_of_miss w p t = rw (t, zero-add)

-- a mask of w bits is that of its own states, and of any test that agrees with it
pub mask_of_is : (w m : ℕ) (p : ℕ → Bool) → m < 2 ^ w → ((i : ℕ) → i < w → has_bit m i ≡ p i) → m ≡ mask_of w p
mask_of_is w m p l h = mask_ext w m (mask_of w p) l (mask_of_lt w p) (λ i q. h i q ∙ sym (has_mask_of_at w p i q))

-- ---- a list that is filled from the front, one store a turn
pub fill_step : {A : Type 0} (d : A) (l : List A) (f : ℕ → A) (i : ℕ) (v : A) → i < length l → v ≡ f i
    → ((k : ℕ) → k < i → get_or l k d ≡ f k) → (k : ℕ) → k < i + 1 → get_or (set l i v) k d ≡ f k
fill_step d l f i v h e b k q = go (eq-or-lt_of_le (omega arith))
  where
    go : (k ≡ i) ⊎ (k < i) → get_or (set l i v) k d ≡ f k
    go (inl z) = rw z (get_or-set_same l i v d h ∙ e)
    go (inr z) = get_or-set_other l i k v d (omega arith) ∙ b k z

pub fill_done : {A : Type 0} (d : A) (n : ℕ) (l : List A) (f : ℕ → A) → length l ≡ n → ((k : ℕ) → k < n → get_or l k d ≡ f k) → l ≡ table n f
fill_done d n l f h b =
    ext_get_or d l (table n f) (h ∙ sym (table_length n f)) (λ k q. let z : k < n = omega arith in b k z ∙ sym (table_at n f k d z))
