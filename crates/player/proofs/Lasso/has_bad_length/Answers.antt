-- A stem or a loop of more than 64 states makes the whole longer than 64, so that the sum is formed only where it cannot overflow.
use mathlib.Core.Path.{sym, ap, ◌∙◌}
use native.Mathlib.Omega.{arith}
use lib.Dec.{ltb}
use borrow.Author.Tests.{eqb-true, eqb-false}
use Rattle.machine.specs.PlayerLaws.{length_empty, length_over, length_whole}
use Rattle.player.specs.Given.{lent}
use Rattle.player.proofs.Lasso.has_bad_length.Goals as goal
use Rattle.player.proofs.Lasso.has_bad_length.Goals.{then-is_empty-via-then-is_empty, then-is_empty-via-else-is_empty+then-self-gt64, then-is_empty-via-else-is_empty+else-self-gt64+then-self-gt64-2}

pub returns-then-is_empty : goal.returns-then-is_empty
returns-then-is_empty c = elim c.then-is_empty.branch [
  | then-is_empty-via-then-is_empty w ↦ sym (length_empty (lent c.args.self.now) (eqb-true _ _ (sym c.is_empty.ensures ∙ w.if-is_empty.true)))
  | then-is_empty-via-else-is_empty+then-self-gt64 w ↦ sym (length_over (lent c.args.self.now) (omega (arith, w.if-self-gt64.true)))
  | then-is_empty-via-else-is_empty+else-self-gt64+then-self-gt64-2 w ↦ sym (length_over (lent c.args.self.now) (omega (arith, w.if-self-gt64-2.true)))
]

pub returns : goal.returns
returns c = ap (ltb 64) c.len.ensures ∙ sym (length_whole (lent c.args.self.now) (eqb-false _ _ (sym c.is_empty.ensures ∙ c.if-is_empty.false)))
