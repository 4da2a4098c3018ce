-- One shifted by a width below 64 is that power of two; from 64 on the width that counts is 64.
use Rattle.std.proofs.Common.{ℕ, ◌-◌, ◌<◌, ◌≤◌, ◌≡◌, ◌∙◌, min, arith, sym, ap}
use Rattle.mask.specs.Bits.{full_mask}
use Rattle.mask.specs.BitsLaws.{one_shl}
use Rattle.mask.proofs.full.Goals as goal

low : (n : ℕ) → n < 64 → min n 64 ≡ n
low n h = omega arith

high : (n : ℕ) → 64 ≤ n → min n 64 ≡ 64
high n h = omega arith

pub returns-then-width-lt64 : goal.returns-then-width-lt64
unfolding full_mask
returns-then-width-lt64 c = ap (λ (x : ℕ). x - 1) (one_shl c.args.width (omega arith)) ∙ sym (ap full_mask (low c.args.width (omega arith)))

pub returns-else-width-lt64 : goal.returns-else-width-lt64
unfolding full_mask
returns-else-width-lt64 c = sym (ap full_mask (high c.args.width (omega arith)))
