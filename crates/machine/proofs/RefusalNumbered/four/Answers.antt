-- A spot is three numbers.
use mathlib.Core.List.{List, ◌∷◌}
use mathlib.Core.Path.{sym, ap}
use Prim.Native.Nat.{ℕ}
use Rattle.machine.specs.Refusals.{number_of, four_numbers}
use Rattle.machine.specs.RefusalsLaws.{spot_three}
use Rattle.machine.proofs.RefusalNumbered.four.Goals as goal

pub returns : goal.returns
unfolding four_numbers
returns c =
    let r = c.args.self in
    rw (c.number.ensures, c.spot-place.ensures) (ap (λ (l : List ℕ). number_of r ∷ l) (sym (spot_three r)))
