use Rattle.std.proofs.Common.{arith, rules, tests}
use Rattle.mask.proofs.RangeLaws.{any_slice}
use Rattle.brute.proofs.lassos.Lasso.visits.Goals as goal

pub returns : goal.returns
returns c = any_slice c.any.ensures.ran c.iter.ensures.rest (omega arith) (search (rules, tests))
