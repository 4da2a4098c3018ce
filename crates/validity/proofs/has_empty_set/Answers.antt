-- There is a lowest empty set exactly if its number is below 8.
use Rattle.std.proofs.Common.{ap, ◌∙◌}
use Rattle.std.specs.Prelude.{is_some}
use Rattle.mask.specs.BoundedLaws.{is_below}
use Rattle.machine.specs.WellFormed.{has_empty_set}
use Rattle.validity.proofs.has_empty_set.Goals as goal

pub returns : goal.returns
unfolding has_empty_set
returns c = c.is_some.ensures ∙ ap is_some c.empty_set.ensures ∙ is_below 8 _
