-- The invariant: what is struck out from here in the turns that are left leaves the answer.
use Rattle.std.proofs.Common.{arith, rules, sym, ◌∙◌}
use Rattle.std.specs.Prelude.{length, ◌<◌}
use Rattle.mask.specs.BoundedLaws.{below_at}
use Rattle.machine.specs.Machines.{pairs}
use Rattle.machine.specs.WellFormedLaws.{pairs_small}
use lib.ListN.{length-set}
use Rattle.brute.specs.RankingLaws.{struck_done, struck_next, struck_none}
use Rattle.brute.proofs.WellLaws.{well_of}
use Rattle.brute.proofs.ranking.Section.strike_out.Goals as goal
use Rattle.brute.proofs.ranking.Section.strike_out.Goals.{In-Some}

-- the pair that is struck out lies in the set's room
inside : (c : In-Some) → c.in-Some.e < length c.loop.set
inside c =
    let at = below_at (pairs c.args.self.now.lifted.pair.now) _ (sym c.first_unkept.ensures ∙ c.in-Some.is) in
    omega (arith, at.0, at.1, c.loop.invariant.1, c.requires.1)

pub returns-in-None : goal.returns-in-None
returns-in-None c =
    let x = c.args in
    struck_done x.self.now.lifted.pair.now x.self.now.lifted.table.now x.self.now.j x.ranks.now x.i c.loop.set _ (rw c.pairs-pairs.ensures at c.loop.invariant.2) (sym c.in-None.is ∙ c.first_unkept.ensures)

pub offset_bounds-set-e : goal.offset_bounds-set-e
offset_bounds-set-e c = omega (arith, inside c, pairs_small _ (well_of c.args.self.now.lifted), below_at (pairs c.args.self.now.lifted.pair.now) _ (sym c.first_unkept.ensures ∙ c.in-Some.is))

pub loop-preserved : goal.loop-preserved
loop-preserved c =
    let x = c.args in (
      search rules,
      simp length-set c.loop.invariant.1,
      struck_next x.self.now.lifted.pair.now x.self.now.lifted.table.now x.self.now.j x.ranks.now x.i c.loop.set _ c.loop.invariant.2 _ c.in-Some.e (sym c.in-Some.is ∙ c.first_unkept.ensures) (omega arith),
    )

pub returns : goal.returns
returns c =
    let x = c.args in
    struck_none x.self.now.lifted.pair.now x.self.now.lifted.table.now x.self.now.j x.ranks.now x.i c.loop.set _ (rw c.pairs-pairs.ensures at c.loop.invariant.2) (omega arith)

pub bounds-set-e : goal.bounds-set-e
bounds-set-e c = inside c
