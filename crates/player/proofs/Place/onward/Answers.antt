-- The two arms are the definition's; positions and rounds are few, so that no sum overflows.
use mathlib.Core.Path.{sym}
use native.Mathlib.Numerals.{add-one}
use native.Mathlib.Omega.{arith}
use lib.ListN.{length}
use Rattle.machine.specs.Lassos.{lasso_length}
use Rattle.player.specs.Given.{lent}
use Rattle.player.specs.PlaceLaws.{onward_again, onward_further}
use Rattle.player.proofs.Place.onward.Goals as goal

pub returns-then-self-len : goal.returns-then-self-len
returns-then-self-len c =
    let x = c.args in
    rw add-one (sym (onward_again (length x.lasso.now.stem.now) (lasso_length (lent x.lasso.now)) x.self (omega (arith, c.len.ensures))))

pub returns-else-self-len : goal.returns-else-self-len
returns-else-self-len c =
    let x = c.args in
    rw add-one (sym (onward_further (length x.lasso.now.stem.now) (lasso_length (lent x.lasso.now)) x.self (λ e. c.if-self-len.false (omega (arith, c.len.ensures)))))
