use Rattle.std.proofs.Common.{rules, tests}
use Rattle.mask.proofs.RangeLaws.{all_range}
use Rattle.comparison.specs.Turns.{same_entries}
use Rattle.comparison.proofs.turns.same_entries.Goals as goal

pub returns : goal.returns
unfolding same_entries
returns c = all_range c.all.ensures.ran (search (rules, tests))
