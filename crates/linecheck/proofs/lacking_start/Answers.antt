use Rattle.std.proofs.Common.{rules, tests}
use Rattle.mask.proofs.RangeLaws.{find_range}
use Rattle.machine.specs.Verdict.{lacking_start}
use Rattle.linecheck.proofs.lacking_start.Goals as goal

pub returns : goal.returns
unfolding lacking_start
returns c = find_range _ c.find.ensures.ran (search (rules, tests))
