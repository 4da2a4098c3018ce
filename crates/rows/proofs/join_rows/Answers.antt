use Rattle.std.proofs.Common.{rules, tests}
use Rattle.rows.specs.Rows.{join_rows}
use Rattle.mask.proofs.MadeLaws.{made_table}
use Rattle.rows.proofs.join_rows.Goals as goal

pub returns : goal.returns
unfolding join_rows
returns c = made_table c.from_fn.ensures.items (search (rules, tests))
