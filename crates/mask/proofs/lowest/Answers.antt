-- The lowest state is defined as the number of trailing zeros.
use Rattle.std.proofs.Common.{refl}
use Rattle.mask.specs.Bits.{lowest_of}
use Rattle.mask.proofs.lowest.Goals as goal

pub returns : goal.returns
unfolding lowest_of
returns c = refl
