-- The set is laid out as a table, and none of its pairs fails the rule.
use Rattle.std.proofs.Common.{ap, sym, ◌∙◌}
use Rattle.std.specs.Prelude.{is_some}
use Rattle.brute.specs.RankingLaws.{closed_is}
use Rattle.brute.proofs.ranking.Section.is_closed.Goals as goal

pub returns : goal.returns
returns c =
    let x = c.args in
    closed_is x.self.now.lifted.pair.now x.self.now.lifted.table.now x.self.now.j x.ranks.now x.i x.x (rw c.pairs-pairs.ensures at c.put_entries.ensures) (sym c.is_none.ensures ∙ ap is_some c.first_unkept.ensures)
