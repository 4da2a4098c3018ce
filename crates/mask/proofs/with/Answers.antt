-- One shifted by a state below 64 is the mask of that state.
use Rattle.std.proofs.Common.{ap, arith, bit_or}
use borrow.Author.Tests.{lt-ltb, le-ltb}
use Rattle.mask.specs.Bits.{with_bit}
use Rattle.mask.specs.BitsLaws.{one_shl}
use Rattle.mask.proofs.with.Goals as goal

pub returns-then-i-lt64 : goal.returns-then-i-lt64
unfolding with_bit
returns-then-i-lt64 c = rw (lt-ltb c.args.i 64 (omega arith)) (ap (bit_or c.args.m) (one_shl c.args.i (omega arith)))

pub returns-else-i-lt64 : goal.returns-else-i-lt64
unfolding with_bit
returns-else-i-lt64 c = rw (le-ltb c.args.i 64 (omega arith))
