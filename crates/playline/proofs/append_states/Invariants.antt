use Rattle.std.proofs.Common.{drop}
use Rattle.text.specs.AppendLaws.{Left}
use Rattle.playline.specs.Lasso.{states_text}
use Rattle.playline.proofs.append_states.Given as goal

abbrev pub invariant-loop-s : goal.invariant-loop-s
invariant-loop-s l = Left 114700 l.fn.line.items (states_text l.states) l.line.items (states_text (drop l.s-index l.states))
