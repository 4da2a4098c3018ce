use Rattle.std.proofs.Common.{sym, ◌∙◌}
use Rattle.machine.specs.RefusalsLaws.{then_refused}
use Rattle.machine.proofs.Passing.{passed_on}
use Rattle.comparison.specs.Turns.{plain_look_up}
use Rattle.comparison.proofs.turns.Known.plain_look_up.Goals as goal

pub returns-in_err-self : goal.returns-in_err-self
unfolding plain_look_up
returns-in_err-self c = passed_on c.from_residual.ensures ∙ sym (then_refused _ _ _ c.in_err-self.was)
