-- Laws of numbers of several bytes, low byte first, for any count of bytes: a number from its bytes, its bytes from it, and both ways back; and
-- that the conversions of std are these.
use Rattle.std.specs.Prelude.{List, ◌∷◌, ◌≡◌, refl, ℕ, zero, suc, ◌+◌, ◌*◌, ◌/◌, ◌%◌, ◌^◌, ◌<◌, length, get_or, take, drop}
use Rattle.std.specs.Int.{sum_through, byte_worth, byte_at, bytes_low_first}
use Rattle.std.proofs.Common.{sym, ap, ap₂, ◌∙◌, pow-suc, div-one, mul-one, mul_assoc, mul_comm, add-mul, add-zero, zero-add, add_assoc, get_or-take, get_or-drop, arith}
use Rattle.std.proofs.Math.Nat.{pow-succ', div-div-eq-div-mul}
use Rattle.std.proofs.Math.Arith.{digits_lt, digits_div, digits_mod}
use Rattle.mask.specs.Bounded.{sum}
use Rattle.mask.specs.BoundedLaws.{sum_cong}
use Rattle.mask.specs.Tables.{table}
use Rattle.mask.specs.TablesLaws.{table_at, table_length, table_cong}
use Rattle.codec.specs.Format.{byte_of, bytes_of, numbers, number_at}

-- ---- sums
pub sum_front : (n : ℕ) (f : ℕ → ℕ) → sum (suc n) f ≡ f 0 + sum n (λ i. f (suc i))
unfolding sum
sum_front zero f = omega arith
sum_front (suc n) f = ap (λ (x : ℕ). x + f (suc n)) (sum_front n f) ∙ omega arith

pub sum_scale : (n k : ℕ) (f : ℕ → ℕ) → sum n (λ i. f i * k) ≡ sum n f * k
unfolding sum
sum_scale zero k f = omega arith
sum_scale (suc n) k f = ap (λ (x : ℕ). x + f n * k) (sum_scale n k f) ∙ sym (add-mul (sum n f) (f n) k)

-- ---- bytes of a number
pub byte_lt : (x i : ℕ) → byte_of x i < 256
unfolding byte_of
byte_lt x i = omega arith

pub byte_zero : (x : ℕ) → byte_of x 0 ≡ x % 256
unfolding byte_of
byte_zero x = ap (λ (y : ℕ). y % 256) (div-one x)

pub byte_suc : (x i : ℕ) → byte_of x (suc i) ≡ byte_of (x / 256) i
unfolding byte_of
byte_suc x i = ap (λ (y : ℕ). y % 256) (ap (λ (y : ℕ). x / y) (pow-succ' 256 i) ∙ sym (div-div-eq-div-mul x 256 (256 ^ i)))

-- ---- a number of n digits g 0, g 1, .. to the base 256
abbrev whole : ℕ → (ℕ → ℕ) → ℕ
whole n g = sum n (λ i. g i * 256 ^ i)

whole_front : (n : ℕ) (g : ℕ → ℕ) → whole (suc n) g ≡ g 0 + whole n (λ i. g (suc i)) * 256
whole_front n g =
    sum_front n (λ i. g i * 256 ^ i)
    ∙ ap₂ ◌+◌ (mul-one (g 0))
    (sum_cong n (λ i. g (suc i) * 256 ^ suc i) (λ i. g (suc i) * 256 ^ i * 256) (λ i l. ap (λ (x : ℕ). g (suc i) * x) (pow-suc 256 i) ∙ sym (mul_assoc (g (suc i)) (256 ^ i) 256))
    ∙ sum_scale n 256 (λ i. g (suc i) * 256 ^ i))

whole_none : (g : ℕ → ℕ) → whole 0 g ≡ 0
unfolding sum
whole_none g = refl

whole_lt : (n : ℕ) (g : ℕ → ℕ) → ((i : ℕ) → i < n → g i < 256) → whole n g < 256 ^ n
whole_lt zero g h = rw (whole_none g) (omega arith)
whole_lt (suc n) g h =
    rw (whole_front n g, pow-suc 256 n) (omega (arith, whole_lt n (λ i. g (suc i)) (λ i l. h (suc i) (omega arith)), h 0 (omega arith)))

-- the digits of a number made of digits
whole_byte : (n : ℕ) (g : ℕ → ℕ) → ((i : ℕ) → i < n → g i < 256) → (i : ℕ) → i < n → byte_of (whole n g) i ≡ g i
whole_byte zero g h i l = absurd (omega arith)
whole_byte (suc n) g h zero l =
    ap (λ (x : ℕ). byte_of x 0) (whole_front n g) ∙ byte_zero _ ∙ omega (arith, h 0 (omega arith))
whole_byte (suc n) g h (suc i) l =
    let e : (g 0 + whole n (λ i. g (suc i)) * 256) / 256 ≡ whole n (λ i. g (suc i)) = omega (arith, h 0 (omega arith)) in
    ap (λ (x : ℕ). byte_of x (suc i)) (whole_front n g) ∙ byte_suc _ i ∙ ap (λ (x : ℕ). byte_of x i) e
    ∙ whole_byte n (λ i. g (suc i)) (λ i l. h (suc i) (omega arith)) i (omega arith)

-- the number made of a number's digits
whole_of : (n x : ℕ) (g : ℕ → ℕ) → x < 256 ^ n → ((i : ℕ) → i < n → g i ≡ byte_of x i) → whole n g ≡ x
whole_of zero x g h e = whole_none g ∙ omega arith
whole_of (suc n) x g h e =
    let k : x < 256 ^ n * 256 = rw pow-suc at h in
    let upper : whole n (λ i. g (suc i)) ≡ x / 256 =
    whole_of n (x / 256) (λ i. g (suc i)) (omega arith) (λ i l. e (suc i) (omega arith) ∙ byte_suc x i) in
    whole_front n g ∙ omega (arith, upper, e 0 (omega arith), byte_zero x)

-- ---- std's conversions
-- the number that they read of bytes
pub read_is : (k : ℕ) (s : List ℕ) → sum_through (λ i. byte_worth i (get_or s i 0)) k ≡ number_at (suc k) s 0
unfolding number_at sum
read_is zero s = omega arith
read_is (suc k) s = ap₂ ◌+◌ (read_is k s) (ap (λ (i : ℕ). get_or s i 0 * 256 ^ suc k) (sym (zero-add (suc k))))

-- the bytes that they give of a number
byte_is : (i n : ℕ) → byte_at i n ≡ byte_of n i
unfolding byte_of
byte_is zero n = sym (byte_zero n)
byte_is (suc i) n = refl

given_from : (k i n : ℕ) → bytes_low_first i k n ≡ table k (λ j. byte_of n (i + j))
unfolding table
given_from zero i n = refl
given_from (suc k) i n =
    ap₂ ◌∷◌ (byte_is i n ∙ ap (byte_of n) (sym (add-zero i)))
    (given_from k (suc i) n ∙ table_cong k _ _ (λ j l. ap (byte_of n) (omega arith)))

pub given_bytes : (k n : ℕ) → bytes_low_first 0 k n ≡ bytes_of k n
unfolding bytes_of
given_bytes k n = given_from k 0 n ∙ table_cong k _ _ (λ j l. ap (byte_of n) (zero-add j))

-- ---- the number at a place of a list
pub number_cong : (n : ℕ) (s t : List ℕ) (at to : ℕ) → ((i : ℕ) → i < n → get_or s (at + i) 0 ≡ get_or t (to + i) 0) → number_at n s at ≡ number_at n t to
unfolding number_at
number_cong n s t at to h = sum_cong n _ _ (λ i l. ap (λ (x : ℕ). x * 256 ^ i) (h i l))

-- of a part, and the numbers of a part
pub part_number : (n m : ℕ) (s : List ℕ) (at : ℕ) → m ≡ n → number_at n (take m (drop at s)) 0 ≡ number_at n s at
part_number n m s at e =
    number_cong n (take m (drop at s)) s 0 at
    (λ i l. ap (λ (k : ℕ). get_or (take m (drop at s)) k 0) (zero-add i) ∙ get_or-take m (drop at s) i 0 (omega arith) ∙ get_or-drop at s i 0)

pub part_numbers : (n count m : ℕ) (s : List ℕ) (at : ℕ) → m ≡ n * count
    → table count (λ k. number_at n (take m (drop at s)) (n * k)) ≡ table count (λ k. number_at n s (at + n * k))
part_numbers n count m s at e =
    table_cong count _ _ (λ k h. number_cong n (take m (drop at s)) s (n * k) (at + n * k)
    (λ i l. get_or-take m (drop at s) (n * k + i) 0 (rw (e, mul_comm n k, mul_comm n count) (digits_lt h l))
    ∙ get_or-drop at s (n * k + i) 0 ∙ ap (λ (j : ℕ). get_or s j 0) (sym (add_assoc at (n * k) i))))

pub number_lt : (n : ℕ) (s : List ℕ) (at : ℕ) → ((i : ℕ) → i < n → get_or s (at + i) 0 < 256) → number_at n s at < 256 ^ n
unfolding number_at
number_lt n s at h = whole_lt n (λ i. get_or s (at + i) 0) h

-- the bytes of the number that stands somewhere are those that stand there
pub number_byte : (n : ℕ) (s : List ℕ) (at : ℕ) → ((i : ℕ) → i < n → get_or s (at + i) 0 < 256) → (i : ℕ) → i < n
    → byte_of (number_at n s at) i ≡ get_or s (at + i) 0
unfolding number_at
number_byte n s at h i l = whole_byte n (λ i. get_or s (at + i) 0) h i l

-- where the bytes of x stand, x stands
pub number_is : (n x : ℕ) (s : List ℕ) (at : ℕ) → x < 256 ^ n → ((i : ℕ) → i < n → get_or s (at + i) 0 ≡ byte_of x i) → number_at n s at ≡ x
unfolding number_at
number_is n x s at h e = whole_of n x (λ i. get_or s (at + i) 0) h e

-- ---- written numbers
pub bytes_length : (n x : ℕ) → length (bytes_of n x) ≡ n
unfolding bytes_of
bytes_length n x = table_length n (byte_of x)

pub bytes_at : (n x i : ℕ) → i < n → get_or (bytes_of n x) i 0 ≡ byte_of x i
unfolding bytes_of
bytes_at n x i l = table_at n (byte_of x) i 0 l

pub numbers_length : (n count : ℕ) (f : ℕ → ℕ) → length (numbers n count f) ≡ n * count
unfolding numbers
numbers_length n count f = table_length (n * count) _

-- byte i of number k
pub numbers_at : (n count : ℕ) (f : ℕ → ℕ) (k i : ℕ) → k < count → i < n → get_or (numbers n count f) (n * k + i) 0 ≡ byte_of (f k) i
unfolding numbers
numbers_at n count f k i h l =
    let place : n * k + i ≡ k * n + i = ap (λ (x : ℕ). x + i) (mul_comm n k) in
    let q : (n * k + i) / n ≡ k = ap (λ (x : ℕ). x / n) place ∙ digits_div k l in
    let r : (n * k + i) % n ≡ i = ap (λ (x : ℕ). x % n) place ∙ digits_mod k l in
    let within : n * k + i < n * count = rw (place, mul_comm n count) (digits_lt h l) in
    table_at (n * count) _ (n * k + i) 0 within ∙ ap₂ (λ (x y : ℕ). byte_of (f x) y) q r

-- where written numbers stand, number k stands n * k further
pub numbers_number : (n count : ℕ) (f : ℕ → ℕ) (s : List ℕ) (at k : ℕ) → k < count → f k < 256 ^ n
    → ((i : ℕ) → i < n * count → get_or s (at + i) 0 ≡ get_or (numbers n count f) i 0) → number_at n s (at + n * k) ≡ f k
numbers_number n count f s at k h small same =
    number_is n (f k) s (at + n * k) small
    (λ i l. ap (λ (x : ℕ). get_or s x 0) (add_assoc at (n * k) i)
    ∙ same (n * k + i) (rw (mul_comm n k, mul_comm n count) (digits_lt h l)) ∙ numbers_at n count f k i h l)
