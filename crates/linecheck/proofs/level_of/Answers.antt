-- The shifted product is the quotient, by the law over the reciprocals; what the quotient times m leaves is the remainder.
use Prim.Native.Nat.{◌-◌, ◌*◌, ◌^◌, ◌<◌}
use native.Mathlib.Omega.{arith}
use Rattle.linecheck.specs.ReciprocalLaws.{found_high, times_high, quotient_times, level_is, set_is}
use Rattle.linecheck.proofs.level_of.Goals as goal
use Rattle.linecheck.proofs.level_of.Goals.{After-reciprocal_of}

product_small : (c : After-reciprocal_of) → (c.args.e - 1) * c.reciprocal_of.result < 2 ^ 35
product_small c =
    let x = c.args in
    found_high x.m x.e _ c.reciprocal_of.ensures (omega arith) (omega arith) (omega arith)

pub overflow_mul-quotient : goal.overflow_mul-quotient
overflow_mul-quotient c = omega (arith, product_small (goal.at.overflow_mul-quotient c).After-reciprocal_of)

pub overflow_mul-result : goal.overflow_mul-result
overflow_mul-result c = record { fits = times_high _ c.args.m (omega (arith, product_small (goal.at.overflow_mul-result c).After-reciprocal_of)) (omega arith) }

pub overflow_sub-result : goal.overflow_sub-result
overflow_sub-result c = let x = c.args in omega (arith, quotient_times x.m x.e c.reciprocal_of.result c.reciprocal_of.ensures (omega arith) (omega arith) (omega arith))

pub returns : goal.returns
returns c =
    let x = c.args in (
      level_is x.m x.e _ c.reciprocal_of.ensures (omega arith) (omega arith) (omega arith),
      set_is x.m x.e _ c.reciprocal_of.ensures (omega arith) (omega arith) (omega arith),
    )
