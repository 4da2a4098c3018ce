-- What is asked of the fairness sets, as the definitions of the tests have it.
use Rattle.std.specs.Prelude.{Bool, true, false}
use Rattle.brute.specs.declared.machines.Sets.{Sets}
use Rattle.brute.specs.declared.machines.Sets.TheVariants.{Any, Nonempty}

-- each set shall have a state
abbrev pub asks_states : Sets → Bool
asks_states Any = false
asks_states Nonempty = true
