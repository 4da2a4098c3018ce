-- The parts of the lines, one behind the other.
use Rattle.text.specs.AppendLaws.{appended, last, next}
use Rattle.hanoi.specs.Parts.{head_parts, head_text}
use Rattle.hanoi.proofs.append_head.Goals as goal

pub returns : goal.returns
unfolding head_text
returns c =
    let x = c.args in
    appended 20000 x.text.now.items (head_parts x.m.now.states x.m.now.sets x.m.now.start)
    (next c.append_numbered.ensures
    (next c.append_byte.ensures
    (next c.append_starts.ensures
    (next c.append_numbered-2.ensures
    (next c.append_numbered-3.ensures
    (next c.append_byte-2.ensures
    (next c.append_acceptance.ensures
    (last c.append.ensures))))))))
