use Rattle.std.proofs.Common.{◌≡◌, ◌≤◌}
use Rattle.comparison.specs.Tables.{tried_table, table_tally}
use Rattle.comparison.specs.TablesLaws.{Reused}
use Rattle.comparison.specs.Tallies.{total}
use Rattle.comparison.proofs.tables.Numbered.compare.Given as goal

abbrev pub invariant-loop-x : goal.invariant-loop-x
invariant-loop-x l = (l.x ≤ l.count) × Reused l.self.which l.self.top l.self.n l.self.solved.now l.initial.table l.table × (l.sum ≡ total l.x (λ z. table_tally l.p l.self.n l.self.solved.now (tried_table l.self.which l.self.top l.self.n l.self.solved.now z l.initial.table)))
