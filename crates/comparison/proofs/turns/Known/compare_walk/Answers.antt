-- The invariant: what is counted from here in the turns that are left is the answer.
use Rattle.std.proofs.Common.{◌≡◌, ◌+◌, ◌-◌, ◌∙◌, arith, rules}
use Rattle.comparison.specs.Tallies.{nothing}
use Rattle.comparison.specs.Turns.{walk_tally, walked}
use Rattle.comparison.specs.TurnsLaws.{walk_last, walk_next, walk_none, walk_start}
use Rattle.comparison.proofs.turns.Known.compare_walk.Goals as goal
use Rattle.comparison.proofs.turns.Known.compare_walk.Goals.{At-loop}

-- what is left to count
left : (c : At-loop) → let k = c.args.self.now in walked k c.args.solved.now (k.entries + 1 - c.loop.counter) c.loop.family c.loop.sum ≡ walk_tally k c.args.solved.now
unfolding nothing
left c = c.loop.invariant.1 ∙ walk_start c.args.self.now c.args.solved.now (c.unwrap_or-family.ensures ∙ c.first_family.ensures.family) (search rules)

pub returns-then-step : goal.returns-then-step
returns-then-step c =
    let k = c.args.self.now in
    let step = c.compare_family-step.ensures in
    walk_last k c.args.solved.now _ _ _ (left (goal.at.returns-then-step c).At-loop) (k.entries - c.loop.counter) (omega (arith, c.loop-test.true)) step.finished step.family step.tally c.add-sum.ensures c.if-step.true
    c.end_agrees.ensures c.of_test.ensures c.add.ensures

pub loop-preserved : goal.loop-preserved
loop-preserved c =
    let k = c.args.self.now in
    let step = c.compare_family-step.ensures in
    (search rules, walk_next k c.args.solved.now _ _ _ c.loop.invariant.1 _ (omega arith) step.finished step.family step.tally c.add-sum.ensures c.if-step.false)

pub returns : goal.returns
returns c = walk_none c.args.self.now c.args.solved.now _ _ _ (left (goal.at.returns c).At-loop) (omega arith) c.of_test-2.ensures c.add-2.ensures
