-- What a caller of `pair_validity` asks of the fairness sets, as the definitions of crate machine have it.
use Rattle.std.specs.Prelude.{Bool, true, false}
use Rattle.validity.specs.declared.Sets.{Sets}
use Rattle.validity.specs.declared.Sets.TheVariants.{Any, Nonempty}

-- each set shall have a state
abbrev pub asks_states : Sets → Bool
asks_states Any = false
asks_states Nonempty = true
