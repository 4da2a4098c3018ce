-- Document 000, section 3.1: iteration to a fixpoint.
use Rattle.std.specs.Prelude.{Bool, cond, ℕ, zero, suc}

-- F applied n times
unfoldable pub iterate : {X : Type 0} → ℕ → (X → X) → X → X
iterate zero F s = s
iterate (suc n) F s = F (iterate n F s)

-- F applied until nothing changes, at most n times
unfoldable pub settle : {X : Type 0} → (X → X → Bool) → ℕ → (X → X) → X → X
settle same zero F s = s
settle same (suc n) F s = let r = F s in let later = settle same n F r in cond (same s r) s later
