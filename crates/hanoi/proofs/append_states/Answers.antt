-- The invariant: the lines of the states from s on are left.
use native.Mathlib.Omega.{arith}
use Rattle.text.specs.AppendLaws.{left_all, left_to, left_next, left_none}
use Rattle.hanoi.specs.PartsLaws.{lines_all, lines_next, lines_past}
use Rattle.hanoi.proofs.append_states.Goals as goal

pub loop-s-init : goal.loop-s-init
loop-s-init c =
    let m = c.args.m.now in
    left_to (left_all _ (omega (arith, c.len.ensures.fits, c.len.ensures.value))) (lines_all m.sets m.observations m.successors m.fairness m.states)

pub loop-s-preserved : goal.loop-s-preserved
loop-s-preserved c =
    let m = c.args.m.now in
    let l = c.loop-s in
    left_next l.invariant _ _ (lines_next m.sets m.observations m.successors m.fairness l.s m.states c.sets_with-members.ensures c.loop-s-test.true) c.append_state.ensures

pub returns : goal.returns
returns c = let m = c.args.m.now in left_none c.loop-s.invariant (lines_past m.sets m.observations m.successors m.fairness c.loop-s.s m.states (omega arith))
