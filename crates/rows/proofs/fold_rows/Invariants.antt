use Rattle.std.proofs.Common.{◌≡◌, ℕ, ◌^◌, ◌<◌}
use Rattle.rows.specs.Folds.{fold_rows}
use Rattle.rows.proofs.fold_rows.Given as goal

abbrev pub invariant-loop-left : goal.invariant-loop-left
invariant-loop-left g l = (l.left < 2 ^ 64) × (l.m < 2 ^ 64) × ((h : ℕ → ℕ → ℕ) → ((x y r : ℕ) → x < 2 ^ 64 → y < 2 ^ 64 → goal.F-post g l.join x y r → r ≡ h x y) → fold_rows h l.rows l.states l.first ≡ fold_rows h l.rows l.left l.m)

abbrev pub decreases-loop-left : goal.decreases-loop-left
decreases-loop-left g l = l.left
