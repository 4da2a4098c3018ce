use Rattle.playline.specs.LassoLaws.{Read}
use Rattle.playline.proofs.numbers_in.Given as goal

abbrev pub invariant-loop-b : goal.invariant-loop-b
invariant-loop-b l = Read l.text l.list.items l.begun l.b-index
