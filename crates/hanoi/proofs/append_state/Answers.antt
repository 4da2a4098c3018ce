-- The parts of the two lines, one behind the other.
use Rattle.text.specs.AppendLaws.{appended, last, next}
use Rattle.hanoi.specs.Parts.{state_parts, state_text}
use Rattle.hanoi.proofs.append_state.Goals as goal

pub returns : goal.returns
unfolding state_text
returns c =
    let x = c.args in
    appended 20000 x.text.now.items (state_parts x.s x.o x.members x.successors)
    (next c.append.ensures
    (next c.append_label.ensures
    (next c.append_numbered.ensures
    (next c.append_braces.ensures
    (next c.append_byte.ensures
    (next c.append_items.ensures
    (last c.append_byte-2.ensures)))))))
