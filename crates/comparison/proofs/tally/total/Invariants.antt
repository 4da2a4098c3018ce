use Rattle.std.proofs.Common.{◌≡◌, ℕ, ◌<◌, ◌≤◌}
use Rattle.comparison.specs.Tallies.{total}
use Rattle.comparison.specs.declared.tally.Tally.{Tally}
use Rattle.comparison.proofs.tally.total.Given as goal

abbrev pub invariant-loop-x : goal.invariant-loop-x
invariant-loop-x g l = (l.x ≤ l.n) × ((h : ℕ → Tally) → ((x : ℕ) (t : Tally) → x < l.n → goal.F-post g l.f x t → t ≡ h x) → l.sum ≡ total l.x h)
