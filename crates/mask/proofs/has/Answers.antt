-- The last bit of the shifted mask is the state; a number of 64 bits has no state from 64 on.
use Rattle.std.proofs.Common.{ℕ, ◌/◌, ◌^◌, arith, sym, ap, nat_eq}
use lib.Bits.{and_mask}
use Rattle.mask.specs.Bits.{has_bit}
use Rattle.mask.specs.BitsLaws.{has_beyond}
use Rattle.mask.proofs.has.Goals as goal

pub returns-then-i-lt64 : goal.returns-then-i-lt64
unfolding has_bit
returns-then-i-lt64 c = ap (λ (x : ℕ). nat_eq x 1) (and_mask (c.args.m / 2 ^ c.args.i) 1)

pub returns-else-i-lt64 : goal.returns-else-i-lt64
returns-else-i-lt64 c = sym (has_beyond 64 c.args.m c.args.i (omega arith) (omega arith))
