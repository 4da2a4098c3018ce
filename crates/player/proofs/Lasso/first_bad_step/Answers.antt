use Rattle.std.proofs.Common.{rules, tests}
use Rattle.mask.proofs.RangeLaws.{find_range}
use Rattle.player.proofs.Lasso.first_bad_step.Goals as goal

pub returns : goal.returns
returns c = rw (← c.len.ensures) (find_range _ c.find.ensures.ran (search (rules, tests)))
