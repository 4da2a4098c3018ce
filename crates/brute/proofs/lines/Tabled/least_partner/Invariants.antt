use mathlib.Core.Bool.{Bool}
use mathlib.Core.List.{List}
use Prim.Native.Nat.{ℕ}
use Rattle.mask.specs.Bits.{has_bit}
use Rattle.mask.specs.Logic.{and}
use Rattle.machine.specs.Lines.{non_blank}
use Rattle.machine.specs.declared.Pair.{Pair}
use Prim.Native.Nat.{◌*◌, ◌-◌, ◌≤◌}
use Rattle.machine.specs.Step.{present_of, staying}
use Rattle.machine.specs.Table.{blank, entry}
use Rattle.brute.specs.ScanLaws.{Scanned}
use Rattle.brute.proofs.lines.Tabled.least_partner.Given as goal

abbrev pub wanted : Pair → List ℕ → ℕ → ℕ → ℕ → ℕ → Bool
wanted p T moves j d a = and (has_bit moves a) (non_blank p T j d a)

abbrev pub invariant-loop-a : goal.invariant-loop-a
invariant-loop-a l = (l.a ≤ 64) × Scanned (wanted l.self.pair.now l.self.table.now l.moves l.j l.d) (staying (present_of l.present) (entry l.self.pair.now l.self.table.now l.j l.d)) (2 * blank - 1) l.a l.best l.limit

abbrev pub decreases-loop-a : goal.decreases-loop-a
decreases-loop-a l = 64 - l.a
