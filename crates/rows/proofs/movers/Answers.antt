use Rattle.std.proofs.Common.{rules, tests}
use Rattle.rows.specs.Rows.{movers_of}
use Rattle.rows.proofs.movers.Goals as goal

pub returns : goal.returns
unfolding movers_of
returns c = c.those.ensures _ (search (rules, tests))
