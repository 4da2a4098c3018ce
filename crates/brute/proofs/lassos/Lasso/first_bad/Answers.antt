use Rattle.std.proofs.Common.{rules, tests}
use Rattle.mask.proofs.RangeLaws.{find_range}
use Rattle.brute.proofs.lassos.Lasso.first_bad.Goals as goal

pub returns : goal.returns
returns c = find_range _ c.find.ensures.ran (search (rules, tests))
