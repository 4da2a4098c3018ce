use Rattle.std.proofs.Common.{◌∙◌}
use Rattle.machine.specs.Table.{table_room}
use Rattle.comparison.proofs.RearLaws.{rear_told}
use Rattle.comparison.specs.Turns.{kept_from, mark}
use Rattle.comparison.proofs.turns.is_kept.Goals as goal

pub returns : goal.returns
unfolding kept_from
returns c = c.eq.ensures ∙ rear_told c.args.from c.min-from.result table_room mark c.args.table.now c.full.result c.min-from.ensures c.told-table c.full.ensures
