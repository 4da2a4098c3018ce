use Rattle.text.specs.AppendLaws.{Left}
use Rattle.hanoi.specs.Text.{acceptance}
use Rattle.hanoi.specs.Parts.{conditions}
use Rattle.hanoi.proofs.append_acceptance.Given as goal

abbrev pub invariant-loop-k : goal.invariant-loop-k
invariant-loop-k l = Left 20000 l.fn.text.items (acceptance l.n) l.text.items (conditions l.k l.n)
