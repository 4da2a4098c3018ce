-- Laws of counts that a loop adds up.
use Rattle.std.specs.Prelude.{◌≡◌, ℕ, ◌+◌}
use Rattle.std.proofs.Common.{add-one}
use Rattle.comparison.specs.declared.tally.Tally.{Tally}
use Rattle.comparison.specs.Tallies.{plus, total}

pub total_more : (f : ℕ → Tally) (n : ℕ) (t one r : Tally) → t ≡ total n f → one ≡ f n → r ≡ plus t one → r ≡ total (n + 1) f
unfolding total
total_more f n t one r et eo er = rw (add-one, er, et, eo)
