-- Block 0 has a refusal of its own.
use Rattle.std.specs.Prelude.{◌≡◌, refl, ℕ, zero, suc}
use Rattle.machine.specs.declared.Refusal.TheVariants.{BadBlock}
use Rattle.codec.specs.Reader.{damaged}
use Rattle.codec.proofs.reader.damaged.Goals as goal

later : (i : ℕ) → (i ≡ 0 → ⊥) → BadBlock i ≡ damaged i
unfolding damaged
later zero other = absurd (other refl)
later (suc i) other = refl

pub returns-then-i-eq0 : goal.returns-then-i-eq0
unfolding damaged
returns-then-i-eq0 c = rw c.if-i-eq0.true

pub returns-else-i-eq0 : goal.returns-else-i-eq0
returns-else-i-eq0 c = later _ c.if-i-eq0.false
