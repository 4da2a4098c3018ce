-- Before the stem's end the moment is a stem state, and from there on a state of the loop's first round.
use mathlib.Core.Path.{sym}
use Rattle.player.specs.Given.{lent}
use Rattle.machine.specs.LassosLaws.{moment_stem}
use Rattle.player.specs.LassoLaws.{moment_cycle}
use Rattle.player.proofs.Lasso.state_at.Goals as goal

pub returns-then-position-self : goal.returns-then-position-self
returns-then-position-self c =
    let x = c.args in
    sym (moment_stem (lent x.self.now) x.position c.if-position-self.true)

pub returns-else-position-self : goal.returns-else-position-self
returns-else-position-self c =
    let x = c.args in
    moment_cycle (lent x.self.now) x.position c.if-position-self.false c.requires
