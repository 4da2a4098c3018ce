-- Machines, pairs, tables and lassos from numbers.
use Rattle.std.specs.Prelude.{cond, List, ℕ, zero, suc, ◌+◌, ◌-◌, ◌/◌, ◌%◌, min, length, get_or, eqb, ltb}
use Rattle.mask.specs.Bits.{has_bit}
use Rattle.mask.specs.Tables.{table}
use Rattle.machine.specs.declared.Machine.{Machine}
use Rattle.machine.specs.declared.Pair.{Pair}
use Rattle.machine.specs.Machines.{pair_under}
use Rattle.machine.specs.Table.{blank}
use Rattle.brute.specs.declared.numbers.Shape.{Shape}

-- digit i of x, from the lowest, where digits run from 0 to `top`
unfoldable pub digit_of : ℕ → ℕ → ℕ → ℕ
digit_of top x zero = x % (top + 1)
digit_of top x (suc i) = digit_of top (x / (top + 1)) i

-- machine number x of a shape: digit 0 is its start mask, digit 1 has the states of an odd observation, then come the successor masks, one for
-- each state, then the sets; the shape has the states whose observation has 2 added
unfoldable pub numbered_machine : Shape → ℕ → Machine
numbered_machine shape x = record {
  states = shape.states;
  sets = shape.sets;
  start = digit_of shape.top x 0;
  observations = table 64 (λ s. cond (has_bit (digit_of shape.top x 1) s) 1 0 + cond (has_bit shape.twos s) 2 0);
  successors = table 64 (λ s. cond (ltb s shape.states) (digit_of shape.top x (2 + s)) 0);
  fairness = table 8 (λ k. cond (ltb k shape.sets) (digit_of shape.top x (2 + min shape.states 64 + k)) 0);
}

-- the pair of concrete machine number x and abstract machine number y, under a hidden mask
unfoldable pub numbered_pair : Shape → Shape → ℕ → ℕ → ℕ → Pair
numbered_pair concrete abstraction hidden x y = pair_under hidden (numbered_machine concrete x) (numbered_machine abstraction y)

-- the entry that a digit stands for: blank for 0, and else one less
unfoldable pub entry_of : ℕ → ℕ
entry_of d = cond (eqb d 0) blank (d - 1)

-- table number x, of n entries, laid over the front of T
unfoldable pub numbered_table : ℕ → ℕ → ℕ → List ℕ → List ℕ
numbered_table top x n T = table (length T) (λ e. cond (ltb e n) (entry_of (digit_of top x e)) (get_or T e 0))

-- the first n digits of x
unfoldable pub states_of : ℕ → ℕ → ℕ → List ℕ
states_of top x n = table n (digit_of top x)
