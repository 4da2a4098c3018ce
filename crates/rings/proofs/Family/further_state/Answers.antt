-- The end of observation 1, by family; the check finds the other states.
use Rattle.rings.specs.Rings.{further_states}
use Rattle.rings.proofs.Family.further_state.Goals as goal

pub returns-in-Staying : goal.returns-in-Staying
unfolding further_states
returns-in-Staying c = rw (c.mask_of-in-Staying.ensures, c.in-2.is, c.in-Staying.is)

pub returns-in-LeadingBack : goal.returns-in-LeadingBack
unfolding further_states
returns-in-LeadingBack c = rw (c.mask_of-in-LeadingBack.ensures, c.in-2.is, c.in-LeadingBack.is)
