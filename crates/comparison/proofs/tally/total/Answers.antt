-- The invariant: the sum of the first x calls, whatever function they are known to follow.
use Rattle.std.proofs.Common.{arith, rules, add-one}
use Rattle.comparison.specs.Tallies.{nothing, total}
use Rattle.comparison.proofs.tally.total.Goals as goal

pub loop-x-init : goal.loop-x-init
unfolding total nothing
loop-x-init g c = (search rules, λ h k. search rules)

pub loop-x-preserved : goal.loop-x-preserved
unfolding total
loop-x-preserved g c = (omega arith, λ h k. rw (add-one, c.add-sum.ensures, c.loop-x.invariant.1 h k, k _ _ c.loop-x-test.true c.f.ensures))
