use Rattle.std.proofs.Common.{rules, tests}
use Rattle.machine.specs.WellFormed.{set_beyond}
use Rattle.mask.proofs.RangeLaws.{any_range}
use Rattle.validity.proofs.masks_beyond.Goals as goal

pub returns : goal.returns
unfolding set_beyond
returns c = any_range c.any.ensures.ran (search (rules, tests))
