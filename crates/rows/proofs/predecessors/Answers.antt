use Rattle.std.proofs.Common.{rules, tests}
use Rattle.rows.specs.Rows.{predecessors_of}
use Rattle.mask.proofs.MadeLaws.{made_table}
use Rattle.rows.proofs.predecessors.Goals as goal

pub returns : goal.returns
unfolding predecessors_of
returns c = made_table c.from_fn.ensures.items (search (rules, tests))
