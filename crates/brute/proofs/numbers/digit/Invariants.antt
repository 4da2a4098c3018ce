use mathlib.Core.Path.{◌≡◌}
use Prim.Native.Nat.{◌+◌, ◌-◌, ◌≤◌}
use Rattle.brute.specs.Numbers.{digit_of}
use Rattle.brute.proofs.numbers.digit.Given as goal

abbrev pub invariant-loop : goal.invariant-loop
invariant-loop l = (l.counter ≤ l.i) × (l.base ≡ l.top + 1) × (digit_of l.top l.rest (l.i - l.counter) ≡ digit_of l.top l.x l.i)

abbrev pub decreases-loop : goal.decreases-loop
decreases-loop l = l.i - l.counter
