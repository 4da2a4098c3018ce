-- The invariant: the first e entries are those of the altered table, and the others are as they were.
use Rattle.std.proofs.Common.{◌+◌, ◌/◌, ◌%◌, cond, eqb, get_or, arith, rules}
use Rattle.mask.specs.FrontLaws.{front_none, front_over, front_turn}
use Rattle.brute.specs.Numbers.{entry_of}
use Rattle.brute.specs.PartLaws.{part_filled}
use Rattle.comparison.specs.Tables.{altered}
use Rattle.comparison.specs.TablesLaws.{entry_changed, entry_kept}
use Rattle.comparison.proofs.tables.Numbered.put_altered.Goals as goal
use Rattle.comparison.proofs.tables.Numbered.put_altered.Goals.{else-e-changed, then-e-changed}

pub loop-e-init : goal.loop-e-init
loop-e-init c = front_none _ _

pub loop-e-preserved : goal.loop-e-preserved
loop-e-preserved c =
    front_turn _ _ c.loop-e.invariant (omega arith) (elim c.if-e-changed.branch [
      | then-e-changed w ↦ entry_changed _ _ _ _ _ w.if-e-changed.true (search rules)
      | else-e-changed w ↦ entry_kept _ _ _ _ _ w.if-e-changed.false (search rules)
    ])

pub returns : goal.returns
unfolding altered
returns c =
    let x = c.args in
    let k = x.self.now in
    front_over (λ e. cond (eqb e (x.x / (k.top + 1))) (entry_of (x.x % (k.top + 1))) (get_or k.solved.now e 0)) x.table.now
    (part_filled _ x.table.now c.min-end.result (omega arith) c.loop-e.invariant (omega arith)) k.n c.min-end.ensures
