use Rattle.std.proofs.Common.{rules, tests}
use Rattle.rows.specs.Rows.{goal_rows}
use Rattle.mask.proofs.MadeLaws.{made_table}
use Rattle.rows.proofs.goal_rows.Goals as goal

pub returns : goal.returns
unfolding goal_rows
returns c = made_table c.from_fn.ensures.items (search (rules, tests))
