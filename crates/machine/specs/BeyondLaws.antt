-- Laws of "beyond" as numbers: what the code of well-formedness leans on.
use Rattle.std.proofs.Math.Bool as B
use Rattle.std.specs.Prelude.{true, false, ◌≡◌, ℕ, ◌/◌, ◌^◌, ◌≤◌, ◌<◌, eqb}
use Rattle.std.proofs.Common.{⊎_elim, div-lt_iff_lt-mul, arith, pow_pos, eqb-true}
use Rattle.std.proofs.Math.Nat.{div-eq_of_lt}
use Rattle.std.proofs.lemmas.Bool.{eqb-false, not-true, not-false}
use Rattle.mask.specs.LogicLaws.{dec, clash, both}
use Rattle.mask.specs.BitsLaws.{has_lt}
use Rattle.machine.specs.WellFormed.{beyond}
use Rattle.machine.specs.WellFormedLaws.{beyond_none, none_beyond, bits_small}

-- a mask has no state at or past n exactly if it is a number of n bits
pub beyond_low : (n m : ℕ) → m < 2 ^ 64 → beyond n m ≡ false → m < 2 ^ n
beyond_low n m h e = bits_small n m h (beyond_none n m e)

pub low_beyond : (n m : ℕ) → m < 2 ^ n → beyond n m ≡ false
low_beyond n m h = none_beyond n m (λ i l t. has_lt n m i h t)

-- no mask has one at or past 64
pub past_beyond : (n m : ℕ) → 64 ≤ n → beyond n m ≡ false
past_beyond n m h = none_beyond n m (λ i l t. omega arith)

-- as a shift decides it
pub beyond_shift : (n m : ℕ) → m < 2 ^ 64 → B.not (eqb (m / 2 ^ n) 0) ≡ beyond n m
beyond_shift n m h = both _ _ fwd bwd
  where
    fwd : B.not (eqb (m / 2 ^ n) 0) ≡ true → beyond n m ≡ true
    fwd e = ⊎_elim (λ t. t)
        (λ t. absurd (eqb-false (m / 2 ^ n) 0 (not-true _ e) (div-eq_of_lt (beyond_low n m h t)))) (dec (beyond n m))

    bwd : beyond n m ≡ true → B.not (eqb (m / 2 ^ n) 0) ≡ true
    bwd e = ⊎_elim (λ t. t)
        (λ t. let z : m / 2 ^ n ≡ 0 = eqb-true _ _ (not-false _ t) in
        absurd (clash (low_beyond n m (omega (arith, (div-lt_iff_lt-mul {k = 2 ^ n} {x = m} {y = 1} (pow_pos n)).0 (omega arith)))) e))
        (dec (B.not (eqb (m / 2 ^ n) 0)))
