use Rattle.text.specs.AppendLaws.{Left}
use Rattle.hanoi.specs.Parts.{lines_below, lines_from}
use Rattle.hanoi.proofs.append_states.Given as goal

abbrev pub invariant-loop-s : goal.invariant-loop-s
invariant-loop-s l =
    let m = l.m in
    Left 20000 l.fn.text.items (lines_below m.states m.sets m.observations m.successors m.fairness) l.text.items (lines_from m.sets m.observations m.successors m.fairness l.s m.states)
