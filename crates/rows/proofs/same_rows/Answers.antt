use Rattle.std.proofs.Common.{rules, tests}
use Rattle.mask.proofs.RangeLaws.{all_range}
use Rattle.rows.specs.Rows.{same_rows}
use Rattle.rows.proofs.same_rows.Goals as goal

pub returns : goal.returns
unfolding same_rows
returns c = rw (← c.min.ensures) (all_range c.all.ensures.ran (search (rules, tests)))
