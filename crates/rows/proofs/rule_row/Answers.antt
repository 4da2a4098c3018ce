-- The two arms are the definition's.
use mathlib.Core.Path.{ap, ◌∙◌}
use lib.Bits.{bit_or}
use Rattle.rows.proofs.rule_row.Goals as goal
use Rattle.rows.proofs.rule_row.Goals.{else-inside, then-inside}

pub returns : goal.returns
returns c = ap (bit_or c.args.base) (elim c.if-inside.branch [
  | then-inside w ↦ w.steps-is ∙ rw w.if-inside.true
  | else-inside w ↦ w.steps-is ∙ w.meet-steps.ensures ∙ rw w.if-inside.false
])
