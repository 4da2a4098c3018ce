-- The invariant: the greatest such number up to x is the answer.
use Rattle.std.proofs.Common.{arith, sym, ◌∙◌}
use Rattle.brute.specs.RankingLaws.{largest_found, largest_less, largest_none}
use Rattle.brute.proofs.ranking.Section.largest_set.Goals as goal

pub returns-then-is_closed : goal.returns-then-is_closed
returns-then-is_closed c =
    let a = c.args in
    sym (largest_found a.self.now.lifted.pair.now a.self.now.lifted.table.now a.self.now.j a.ranks.now a.i c.loop-x.x c.loop-x-test.true (sym c.is_closed.ensures ∙ c.if-is_closed.true)) ∙ c.loop-x.invariant

pub loop-x-preserved : goal.loop-x-preserved
loop-x-preserved c =
    let a = c.args in
    largest_less a.self.now.lifted.pair.now a.self.now.lifted.table.now a.self.now.j a.ranks.now a.i c.loop-x.x c.loop-x-test.true (sym c.is_closed.ensures ∙ c.if-is_closed.false) ∙ c.loop-x.invariant

pub returns : goal.returns
returns c =
    let a = c.args in
    sym (largest_none a.self.now.lifted.pair.now a.self.now.lifted.table.now a.self.now.j a.ranks.now a.i c.loop-x.x (omega arith)) ∙ c.loop-x.invariant
