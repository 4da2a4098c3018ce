-- Laws of digits.
use Rattle.std.specs.Prelude.{Bool, true, false, cond, List, ◌≡◌, ◌%◌, ◌+◌, ◌/◌, ◌≤◌, min, suc, zero, ℕ, ltb}
use Rattle.std.proofs.Common.{mod-lt, arith}
use Rattle.mask.specs.Bits.{has_bit}
use Rattle.mask.specs.Tables.{table}
use Rattle.brute.specs.Numbers.{digit_of, numbered_machine}
use Rattle.brute.specs.declared.numbers.Shape.{Shape}

pub digit_le : (top x i : ℕ) → digit_of top x i ≤ top
unfolding digit_of
digit_le top x zero = omega (arith, mod-lt x {m = top + 1} (omega arith))
digit_le top x (suc i) = digit_le top (x / (top + 1)) i

-- one digit is passed
pub digit_rest : (top x i k : ℕ) → i ≡ suc k → digit_of top (x / (top + 1)) k ≡ digit_of top x i
unfolding digit_of
digit_rest top x i k e = rw e

-- none is left to pass
pub digit_last : (top x i : ℕ) → i ≡ 0 → x % (top + 1) ≡ digit_of top x i
unfolding digit_of
digit_last top x i e = rw e

-- what a test lets through is no more than it is given
pub cond_le : (b : Bool) (v : ℕ) → cond b v 0 ≤ v
cond_le true v = omega arith
cond_le false v = omega arith

-- a machine from its parts
pub machine_is : (shape : Shape) (x n start : ℕ) (observations successors fairness : List ℕ) → n ≡ min shape.states 64
    → start ≡ digit_of shape.top x 0
    → observations ≡ table 64 (λ s. cond (has_bit (digit_of shape.top x 1) s) 1 0 + cond (has_bit shape.twos s) 2 0)
    → successors ≡ table 64 (λ s. cond (ltb s shape.states) (digit_of shape.top x (2 + s)) 0)
    → fairness ≡ table 8 (λ k. cond (ltb k shape.sets) (digit_of shape.top x (2 + n + k)) 0)
    → record {
      states = shape.states;
      sets = shape.sets;
      start = start;
      observations = observations;
      successors = successors;
      fairness = fairness;
    }
    ≡ numbered_machine shape x
unfolding numbered_machine
machine_is shape x n start observations successors fairness en es eo em ef = rw (es, eo, em, ef, en)
