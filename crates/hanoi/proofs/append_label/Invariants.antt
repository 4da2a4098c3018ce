use Prim.Native.Nat.{◌-◌}
use Rattle.text.specs.AppendLaws.{Left}
use Rattle.hanoi.specs.Text.{label}
use Rattle.hanoi.specs.Parts.{literals}
use Rattle.hanoi.proofs.append_label.Given as goal

abbrev pub invariant-loop-i : goal.invariant-loop-i
invariant-loop-i l = Left 20000 l.fn.text.items (label l.o) l.text.items (literals l.o l.i (8 - l.i))
