use Rattle.std.proofs.Common.{rules, tests}
use Rattle.mask.specs.Logic.{and}
use Rattle.machine.specs.WellFormed.{first_empty}
use Rattle.mask.proofs.RangeLaws.{find_range}
use Rattle.validity.proofs.first_empty.Goals as goal

pub returns : goal.returns
unfolding first_empty and
returns c = find_range _ c.find.ensures.ran (search (rules, tests))
