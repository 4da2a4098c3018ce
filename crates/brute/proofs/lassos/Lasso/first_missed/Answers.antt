use Rattle.std.proofs.Common.{rules, tests}
use Rattle.mask.specs.Logic.{not}
use Rattle.mask.proofs.RangeLaws.{find_range}
use Rattle.machine.specs.Player.{missed_set}
use Rattle.brute.proofs.lassos.Lasso.first_missed.Goals as goal

pub returns : goal.returns
unfolding missed_set not
returns c = find_range _ c.find.ensures.ran (search (rules, tests))
