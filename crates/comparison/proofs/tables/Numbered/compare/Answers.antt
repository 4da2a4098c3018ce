-- The invariant: the sum of the first x tables, and that a table laid over the used buffer is the one laid over the first.
use Rattle.std.proofs.Common.{rules}
use Rattle.comparison.specs.Tallies.{nothing, total}
use Rattle.comparison.specs.TablesLaws.{reused_start, reused_tally, reused_turn}
use Rattle.comparison.specs.TalliesLaws.{total_more}
use Rattle.comparison.proofs.tables.Numbered.compare.Goals as goal

pub loop-x-init : goal.loop-x-init
unfolding total nothing
loop-x-init c = (search rules, reused_start _ _ _ _ _, search rules)

pub loop-x-preserved : goal.loop-x-preserved
loop-x-preserved c =
    let l = c.loop-x in
    let e = c.put.ensures in
    (search rules, reused_turn _ _ l.invariant.1 e, total_more _ l.x l.sum c.compare_table.result _ l.invariant.2 (reused_tally _ _ _ _ l.invariant.1 e c.compare_table.ensures) c.add-sum.ensures)
