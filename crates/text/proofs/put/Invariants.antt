use Prim.Native.Nat.{◌-◌}
use lib.ListN.{length}
use Rattle.text.specs.PutLaws.{Put}
use Rattle.text.proofs.put.Given as goal

abbrev pub invariant-loop-i : goal.invariant-loop-i
invariant-loop-i l = Put l.initial.out l.at l.word l.out l.to l.i

abbrev pub decreases-loop-i : goal.decreases-loop-i
decreases-loop-i l = length l.word - l.i
