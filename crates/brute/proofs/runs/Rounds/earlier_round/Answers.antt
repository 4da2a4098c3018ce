use Rattle.std.proofs.Common.{rules, tests}
use Rattle.mask.proofs.RangeLaws.{find_range}
use Rattle.brute.proofs.runs.Rounds.earlier_round.Goals as goal

pub returns : goal.returns
returns c = find_range _ c.find.ensures.ran (search (rules, tests))
