use Rattle.std.proofs.Common.{◌∙◌}
use Rattle.machine.specs.Machines.{fair_set, in_fair_set}
use Rattle.brute.proofs.machines.in_set.Goals as goal

pub returns : goal.returns
unfolding in_fair_set fair_set
returns c = c.has.ensures ∙ rw c.element_or.ensures
