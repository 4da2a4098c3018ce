-- The empty mask meets any mask in nothing.
use Rattle.std.proofs.Common.{refl}
use Rattle.mask.specs.Bits.{rest_of}
use Rattle.mask.proofs.rest.Goals as goal

pub returns-then-m-eq0 : goal.returns-then-m-eq0
unfolding rest_of
returns-then-m-eq0 c = rw c.if-m-eq0.true refl

pub returns-else-m-eq0 : goal.returns-else-m-eq0
unfolding rest_of
returns-else-m-eq0 c = refl
