use mathlib.Core.Bool.{true}
use mathlib.Core.Path.{◌≡◌}
use Prim.Native.Nat.{ℕ, ◌^◌, ◌<◌}
use Rattle.mask.specs.Bounded.{every, every_in}
use Rattle.machine.specs.Lines.{passes}
use Rattle.linecheck.specs.BoundsLaws.{serves}
use Rattle.linecheck.proofs.lines_validity.Given as goal

abbrev pub invariant-loop-rest : goal.invariant-loop-rest
invariant-loop-rest l =
    let p = l.fn.formed.pair.now in
    (l.rest < 2 ^ l.nc) × (passes p l.table l.j l.c l.a ≡ every_in 64 l.rest (serves p l.table l.moves l.section l.bound)) × (l.answer ≡ l.initial.answer)

abbrev pub decreases-loop-rest : goal.decreases-loop-rest
decreases-loop-rest l = l.rest

abbrev pub invariant-loop-a : goal.invariant-loop-a
invariant-loop-a l = ((k : ℕ) → k < l.a → passes l.fn.formed.pair.now l.table l.j l.c k ≡ true) × (l.answer ≡ l.initial.answer)

abbrev pub invariant-loop-c : goal.invariant-loop-c
invariant-loop-c l = ((k : ℕ) → k < l.c → every l.na (passes l.fn.formed.pair.now l.table l.j k) ≡ true) × (l.answer ≡ l.initial.answer)

abbrev pub invariant-lines : goal.invariant-lines
invariant-lines l = ((k : ℕ) → k < l.j → every l.nc (λ c. every l.na (passes l.fn.formed.pair.now l.table k c)) ≡ true) × (l.answer ≡ l.initial.answer)
