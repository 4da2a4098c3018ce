-- The invariant: the states from the next one on are left.
use mathlib.Core.Path.{refl}
use Rattle.text.specs.AppendLaws.{left_next, left_none}
use Rattle.playline.specs.LineLaws.{states_next, states_past}
use Rattle.playline.proofs.append_states.Goals as goal

pub loop-s-preserved : goal.loop-s-preserved
loop-s-preserved c =
    let l = c.loop-s in
    left_next (left_next l.invariant _ _ (states_next c.args.states.now l.s-index c.loop-s-test.true) c.append_byte.ensures) _ _ refl c.append_number.ensures

pub returns : goal.returns
returns c = left_none c.loop-s.invariant (states_past c.args.states.now c.loop-s.s-index c.loop-s-test.false)
