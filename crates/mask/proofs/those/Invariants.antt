use Rattle.std.proofs.Common.{◌≡◌, ℕ, ◌<◌, ◌≤◌, min, Bool}
use Rattle.mask.specs.Tables.{mask_of}
use Rattle.mask.proofs.those.Given as goal

abbrev pub invariant-loop-i : goal.invariant-loop-i
invariant-loop-i g l = (l.i ≤ l.i-end) × (l.i-end ≡ min l.n 64) × ((p : ℕ → Bool) → ((i : ℕ) (b : Bool) → i < min l.n 64 → goal.F-post g l.test i b → b ≡ p i) → l.m ≡ mask_of l.i p)
