use Rattle.std.proofs.Common.{rules, tests}
use Rattle.mask.proofs.RangeLaws.{all_range}
use Rattle.machine.specs.Lassos.{is_fair}
use Rattle.brute.proofs.lassos.Lasso.is_fair.Goals as goal

pub returns : goal.returns
unfolding is_fair
returns c = all_range c.all.ensures.ran (search (rules, tests))
