use Rattle.std.specs.Prelude.{◌<◌, ℕ}
use Rattle.std.specs.List.{HoldsAt}
use Rattle.brute.proofs.lists.put_each.Given as goal

abbrev pub invariant-loop-i : goal.invariant-loop-i
invariant-loop-i g l = (k : ℕ) → k < l.i → HoldsAt (goal.F-post g l.f k) l.out k
