use Rattle.std.proofs.Common.{rules, tests}
use Rattle.mask.proofs.RangeLaws.{all_range}
use Rattle.mask.specs.Logic.{not, or}
use Rattle.comparison.specs.Tables.{within}
use Rattle.comparison.proofs.tables.is_within.Goals as goal

pub returns : goal.returns
unfolding within or not
returns c = all_range c.all.ensures.ran (search (rules, tests))
