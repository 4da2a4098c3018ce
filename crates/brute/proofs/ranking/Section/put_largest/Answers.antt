-- Few pairs and many are the cases of the definition.
use Rattle.brute.specs.RankingLaws.{largest_few, largest_many}
use Rattle.brute.proofs.ranking.Section.put_largest.Goals as goal

pub returns-then-pairs-le12 : goal.returns-then-pairs-le12
returns-then-pairs-le12 c =
    let x = c.args in
    largest_few x.self.now.lifted.pair.now x.self.now.lifted.table.now x.self.now.j x.ranks.now x.i x.set.now (rw c.pairs-pairs.ensures at c.if-pairs-le12.true) c.largest_set.ensures (rw c.pairs-pairs.ensures at c.put_entries.ensures)

pub returns-else-pairs-le12 : goal.returns-else-pairs-le12
returns-else-pairs-le12 c =
    let x = c.args in
    largest_many x.self.now.lifted.pair.now x.self.now.lifted.table.now x.self.now.j x.ranks.now x.i x.set.now (rw c.pairs-pairs.ensures at c.if-pairs-le12.false) c.strike_out.ensures
