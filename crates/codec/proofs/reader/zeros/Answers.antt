use Rattle.std.proofs.Common.{arith, rules, tests}
use Rattle.mask.proofs.RangeLaws.{all_slice}
use Rattle.codec.proofs.reader.zeros.Goals as goal

pub returns : goal.returns
returns c = all_slice c.all.ensures.ran c.iter.ensures.rest (omega arith) (search (rules, tests))
