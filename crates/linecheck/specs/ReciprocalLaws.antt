-- Division by a multiplication and a division by a fixed number, and so an entry's l and k.
-- Why it is exact: with a reciprocal that is rounded up, m times the product is x times the fixed number and less than one such number more;
-- divided by the fixed number that is x, and then by m it is x / m.
use Rattle.std.specs.Prelude.{◌≡◌, ℕ, ◌+◌, ◌-◌, ◌*◌, ◌/◌, ◌^◌, ◌≤◌, ◌<◌}
use Rattle.std.proofs.Math.Path.{sym, ap}
use Rattle.std.proofs.Common.{◌∙◌, add-zero, mul-add, mul_assoc, mul-le-mul, div-le_self, div-mul-le_self, arith}
use Rattle.std.proofs.Math.Nat.{lt-div-mul-add, div-eq_of_lt, mul-add-div_right, div-div-eq-div-mul, mul-div-mul_right, mod-eq-sub-div-mul}
use Rattle.machine.specs.Ranks.{level_of, set_of}
use Rattle.linecheck.specs.Reciprocal.{reciprocal_of}

-- x / m as (x × r) / d, where r × m is over d by so little that x times as much is less than d
pub by_reciprocal : (d m r over x : ℕ) → 0 < d → 0 < m → r * m ≡ d + over → x * over < d → x * r / d ≡ x / m
by_reciprocal d m r over x hd hm e h =
    let product : x * r * m ≡ x * d + x * over = mul_assoc x r m ∙ ap (λ (y : ℕ). x * y) e ∙ mul-add x d over in
    let lost : x + x * over / d ≡ x = ap (λ (y : ℕ). x + y) (div-eq_of_lt h) ∙ add-zero x in
    let quotient : x * r * m / d ≡ x = ap (λ (y : ℕ). y / d) product ∙ mul-add-div_right hd x (x * over) ∙ lost in
    sym (mul-div-mul_right (x * r) d hm) ∙ sym (div-div-eq-div-mul (x * r * m) d m) ∙ ap (λ (y : ℕ). y / m) quotient

-- ---- the reciprocals of 1 to 8
reciprocal_over : (m : ℕ) → 0 < m → (2 ^ 19 ≤ reciprocal_of m * m) × (reciprocal_of m * m < 2 ^ 19 + m)
unfolding reciprocal_of
reciprocal_over m l = (omega (arith, lt-div-mul-add {a = 2 ^ 19 + m - 1} l), omega (arith, div-mul-le_self (2 ^ 19 + m - 1) m))

reciprocal_high : (m : ℕ) → m ≤ 8 → reciprocal_of m ≤ 524295
unfolding reciprocal_of
reciprocal_high m h = omega (arith, div-le_self (2 ^ 19 + m - 1) m)

-- with numbers of 16 bits no product needs more than 35 bits, and the quotient is right
module _ (m x : ℕ) (l : 0 < m) (h : m ≤ 8) (s : x < 2 ^ 16) where
  product_high : x * reciprocal_of m < 2 ^ 35
  product_high = omega (arith, mul-le-mul {n₁ = x} {m₁ = reciprocal_of m} {n₂ = 65535} {m₂ = 524295} (omega arith) (reciprocal_high m h))

  quotient_by : x * reciprocal_of m / 2 ^ 19 ≡ x / m
  quotient_by =
      let r = reciprocal_of m in
      let over = r * m - 2 ^ 19 in
      let b = reciprocal_over m l in
      let error = mul-le-mul {n₁ = x} {m₁ = over} {n₂ = 65535} {m₂ = 7} (omega arith) (omega (arith, b)) in
      by_reciprocal (2 ^ 19) m r over x (omega arith) l (omega (arith, b)) (omega (arith, error))

-- ---- an entry's l and k, by a number that equals the reciprocal
module _ (m e found : ℕ) (made : found ≡ reciprocal_of m) (l : 0 < m) (h : m ≤ 8) (s : e < 2 ^ 16) where
  pub found_high : (e - 1) * found < 2 ^ 35
  found_high = rw made (product_high m (e - 1) l h (omega arith))

  abbrev quotient : ℕ
  quotient = (e - 1) * found / 2 ^ 19

  is_quotient : quotient ≡ (e - 1) / m
  is_quotient = rw made (quotient_by m (e - 1) l h (omega arith))

  pub quotient_times : quotient * m ≤ e - 1
  quotient_times = rw is_quotient (div-mul-le_self (e - 1) m)

  pub level_is : quotient + 1 ≡ level_of m e
  unfolding level_of
  level_is = ap (λ (q : ℕ). q + 1) is_quotient

  pub set_is : e - 1 - quotient * m ≡ set_of m e
  unfolding set_of
  set_is = ap (λ (q : ℕ). e - 1 - q * m) is_quotient ∙ sym (mod-eq-sub-div-mul (e - 1) m)

-- by the sizes alone, so that a wrong quotient is refused at what it says and not at its size
pub times_high : (q m : ℕ) → q < 2 ^ 35 → m ≤ 8 → q * m < 2 ^ 64
times_high q m hq hm = omega (arith, mul-le-mul {n₁ = q} {m₁ = m} {n₂ = 34359738367} {m₂ = 8} (omega arith) hm)
