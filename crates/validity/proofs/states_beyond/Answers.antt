use Rattle.std.proofs.Common.{rules, tests}
use Rattle.machine.specs.WellFormed.{state_beyond}
use Rattle.mask.proofs.RangeLaws.{any_range}
use Rattle.validity.proofs.states_beyond.Goals as goal

pub returns : goal.returns
unfolding state_beyond
returns c = any_range c.any.ensures.ran (search (rules, tests))
