-- The parts of the text, one behind the other; a well-formed machine's text is shorter than the room.
use native.Mathlib.Omega.{arith}
use Rattle.machine.specs.WellFormedLaws.{WellMachine, valid_machine}
use Rattle.text.specs.AppendLaws.{appended, last, next}
use Rattle.hanoi.specs.Parts.{text_parts}
use Rattle.hanoi.proofs.CallLaws.{text_whole}
use Rattle.hanoi.proofs.append_text.Goals as goal
use Rattle.hanoi.proofs.append_text.Goals.{Start}

well : (c : Start) → WellMachine 8 c.args.m.now
well c = valid_machine 8 c.args.m.now (omega arith) c.requires.formed

pub append_head-requires : goal.append_head-requires
append_head-requires c = (well (goal.at.append_head-requires c).Start).sets_low

pub append_states-requires-clause-n_bound : goal.append_states-requires-clause-n_bound
append_states-requires-clause-n_bound c = (well (goal.at.append_states-requires-clause-n_bound c).Start).states_high

pub append_states-requires-clause-k_bound : goal.append_states-requires-clause-k_bound
append_states-requires-clause-k_bound c = (well (goal.at.append_states-requires-clause-k_bound c).Start).sets_high

pub returns : goal.returns
returns c =
    text_whole c.args.m.now (well (goal.at.returns c).Start) c.requires.empty
    (appended 20000 c.args.text.now.items (text_parts c.args.m.now) (next c.append_head.ensures (next c.append_states.ensures (last c.append.ensures))))
