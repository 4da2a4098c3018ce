-- The number of ones is the number of states that the mask has.
use Rattle.std.proofs.Common.{arith}
use Rattle.mask.specs.WalkLaws.{ones_count}
use Rattle.mask.proofs.size.Goals as goal

pub returns : goal.returns
returns c = ones_count 64 c.args.m (omega arith)
