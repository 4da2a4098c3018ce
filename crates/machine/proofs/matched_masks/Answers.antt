use Rattle.std.proofs.Common.{rules, tests}
use Rattle.mask.proofs.MadeLaws.{made_table}
use Rattle.machine.specs.Observed.{matched_masks}
use Rattle.machine.proofs.matched_masks.Goals as goal

pub returns : goal.returns
unfolding matched_masks
returns c = made_table c.from_fn.ensures.items (search (rules, tests))
