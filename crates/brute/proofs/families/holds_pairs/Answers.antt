use Rattle.std.proofs.Common.{rules, tests}
use Rattle.mask.proofs.RangeLaws.{all_range}
use Rattle.brute.specs.Families.{holds_pairs}
use Rattle.brute.proofs.families.holds_pairs.Goals as goal

pub returns : goal.returns
unfolding holds_pairs
returns c = all_range c.all.ensures.ran (search (rules, tests))
