-- Any four numbers: a number and a spot's three, as C gets what stopped a call and what is no refusal.
use Rattle.std.specs.Prelude.{List, [], ◌∷◌, ℕ}
use Rattle.machine.specs.declared.Numbers.{Numbers}

-- the four with this number and spot
abbrev pub numbers : ℕ → ℕ → ℕ → ℕ → Numbers
numbers number p q r = record { number = number; first = p; second = q; third = r }

-- them as a list
unfoldable pub four_of : Numbers → List ℕ
four_of n = n.number ∷ n.first ∷ n.second ∷ n.third ∷ []
