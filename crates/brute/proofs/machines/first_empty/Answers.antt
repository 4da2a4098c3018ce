use Rattle.std.proofs.Common.{rules, tests}
use Rattle.mask.specs.Logic.{and, not}
use Rattle.mask.proofs.RangeLaws.{find_range}
use Rattle.machine.specs.WellFormed.{first_empty}
use Rattle.brute.proofs.machines.first_empty.Goals as goal

pub returns : goal.returns
unfolding first_empty and not
returns c = find_range _ c.find.ensures.ran (search (rules, tests))
