use Rattle.std.proofs.Common.{◌∙◌, sym, rules, tests}
use Rattle.machine.specs.Machines.{observation}
use Rattle.machine.specs.Observed.{same_mask}
use Rattle.machine.specs.ObservedLaws.{row_in, row_out}
use Rattle.machine.proofs.matched_row.Goals as goal

pub returns-then-s-c : goal.returns-then-s-c
unfolding same_mask observation
returns-then-s-c c = c.those.ensures _ (search (rules, tests)) ∙ sym (row_in c.args.p.now c.args.s c.if-s-c.true)

pub returns-else-s-c : goal.returns-else-s-c
returns-else-s-c c = sym (row_out c.args.p.now c.args.s c.if-s-c.false)
