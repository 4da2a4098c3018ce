use Rattle.std.proofs.Common.{rules, tests}
use Rattle.mask.proofs.RangeLaws.{all_range}
use Rattle.brute.proofs.lassos.same_until.Goals as goal

pub returns : goal.returns
returns c = all_range c.all.ensures.ran (search (rules, tests))
