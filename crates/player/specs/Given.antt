-- What the player is given, as the code has it.
use Rattle.std.specs.Prelude.{Bool, List, ℕ, length, get_or}
use Rattle.mask.specs.Logic.{not}
use Rattle.mask.specs.Bits.{has_bit}
use Rattle.mask.specs.Bounded.{some}
use Rattle.machine.specs.Lassos as L
use Rattle.machine.specs.Lassos.{given}
use Rattle.player.specs.declared.Lasso.{Lasso}

-- the lasso that is lent
abbrev pub lent : Lasso → L.Lasso
lent l = given l.stem.now l.cycle.now

-- no state of the loop is in the mask
unfoldable pub none_in : ℕ → List ℕ → Bool
none_in members cycle = not (some (length cycle) (λ i. has_bit members (get_or cycle i 0)))
