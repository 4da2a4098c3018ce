-- Each case of what is said is one of the definitions.
use mathlib.Core.Path.{refl, sym, ◌∙◌}
use Rattle.machine.specs.Refusals.{answer_in}
use Rattle.machine.specs.RefusalsLaws.{spot_kept, spot_put}
use Rattle.machine.proofs.told.Goals as goal

pub returns-in-Ok-clause-value : goal.returns-in-Ok-clause-value
unfolding answer_in
returns-in-Ok-clause-value g c = rw c.in-Ok.is refl

pub returns-in-Ok-clause-numbers : goal.returns-in-Ok-clause-numbers
returns-in-Ok-clause-numbers g c = sym (spot_kept c.args.spot.now c.in-Ok.is)

pub returns-in-Err-clause-value : goal.returns-in-Err-clause-value
unfolding answer_in
returns-in-Err-clause-value g c = rw c.in-Err.is refl

pub returns-in-Err-clause-numbers : goal.returns-in-Err-clause-numbers
returns-in-Err-clause-numbers g c = c.put_refusal.ensures ∙ sym (spot_put c.args.spot.now c.in-Err.is)
