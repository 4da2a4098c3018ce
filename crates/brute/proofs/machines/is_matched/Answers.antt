use Rattle.std.proofs.Common.{◌∙◌}
use Rattle.machine.specs.Machines.{matched}
use Rattle.brute.proofs.machines.is_matched.Goals as goal

pub returns : goal.returns
unfolding matched
returns c = c.same_observation.ensures ∙ rw (c.observed.ensures, c.observed-2.ensures)
