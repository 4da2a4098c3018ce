-- Pairs of machines that have two rings each and some states after them; `second` is the first state of the second ring.
use Rattle.std.specs.Prelude.{Bool, true, false, cond, List, [], ◌∷◌, ℕ, ◌+◌, ◌-◌, min, get_or, eqb, ltb}
use Rattle.std.specs.Int.Bits.{bit_xor}
use Rattle.std.specs.List.{fold}
use Rattle.mask.specs.Bits.{with_bit, full_mask}
use Rattle.mask.specs.Tables.{table, mask_of}
use Rattle.machine.specs.declared.Machine.{Machine}
use Rattle.machine.specs.declared.Pair.{Pair}
use Rattle.machine.specs.Machines.{pair_under}
use Rattle.rings.specs.declared.Family.{Family}
use Rattle.rings.specs.declared.Family.TheVariants.{Staying, LeadingBack}
use Rattle.rings.specs.declared.Kind.{Kind}
use Rattle.rings.specs.declared.Kind.TheVariants.{Concrete, Abstract}
use Rattle.rings.specs.declared.Rings.{Rings}
use Rattle.rings.specs.declared.State.{State}

-- plays go back from an end
abbrev pub leads_back : Family → Bool
leads_back (Staying entry) = false
leads_back LeadingBack = true

-- a state's observation and successors, and whether it is in the sets
abbrev pub like : ℕ → List ℕ → Bool → State
like observation successors fair = record { observation = observation; successors = fold with_bit 0 successors; fair = fair }

-- the state after s in a ring that starts at `from` and ends before `end`
unfoldable pub ring_next : ℕ → ℕ → ℕ → ℕ
ring_next from end s = cond (eqb (s + 1) end) from (s + 1)

-- state s of a concrete machine: first ring, second ring, ends of observation 1 and 2
unfoldable pub concrete_state : Family → Rings → ℕ → State
concrete_state family rings s =
    let second = rings.first in
    let end = second + rings.second in
    cond (ltb s second) (like 0 (ring_next 0 second s ∷ (end + 1) ∷ cond (eqb s 0) (end ∷ []) []) false)
    (cond (ltb s end) (like 0 (ring_next second end s ∷ cond (eqb s (second + 1)) [] ((end + 1) ∷ [])) true)
    (cond (eqb s end) (like 1 (cond (leads_back family) (second + 1) end ∷ []) (leads_back family)) (like 2 ((end + 1) ∷ []) false)))

-- the states after the rings of an abstract machine, of which `after` is the first: the one that leads to the universal state, the universal state, ends of
-- observation 1 and 2; in the second family one that leads back into the second ring and one that leads to the last
unfoldable pub further_states : Family → ℕ → ℕ → List State
further_states family second after =
    like 0 ((after + 1) ∷ []) false
    ∷ like 0 ((after + 1) ∷ (after + 2) ∷ (after + 3) ∷ []) true
    ∷ like 1 (cond (leads_back family) (after + 1) (after + 2) ∷ []) true
    ∷ like 2 ((after + 3) ∷ []) true
    ∷ like 1 ((second + 1) ∷ []) false
    ∷ like 1 ((after + 6) ∷ []) false
    ∷ []

-- and the last, which never shows 1 again
abbrev pub last_state : ℕ → State
last_state after = like 0 ((after + 6) ∷ (after + 3) ∷ []) false

-- the state beside its ring to which the first state of an abstract machine leads
unfoldable pub side_state : Family → ℕ → ℕ → ℕ
side_state (Staying entry) second after = second + entry
side_state LeadingBack second after = after + 5

-- state s of an abstract machine: first ring, second ring, further states
unfoldable pub abstract_state : Family → Rings → ℕ → State
abstract_state family rings s =
    let second = rings.first in
    let after = second + rings.second in
    let back_state = cond (leads_back family) ((after + 4) ∷ []) [] in
    cond (ltb s second) (like 0 (ring_next 0 second s ∷ (after + 3) ∷ cond (eqb s 0) (side_state family second after) (after + 2) ∷ []) true)
    (cond (ltb s after) (like 0 (ring_next second after s ∷ (after + 3) ∷ cond (eqb s second) (after ∷ back_state) ((after + 2) ∷ [])) false)
    (get_or (further_states family second after) (s - after) (last_state after)))

-- how many states a machine has after its rings
unfoldable pub states_after : Kind → Family → ℕ
states_after Concrete family = 2
states_after Abstract family = cond (leads_back family) 7 4

unfoldable pub ring_states : Kind → Family → Rings → ℕ
ring_states kind family rings = rings.first + rings.second + states_after kind family

unfoldable pub own_state : Kind → Family → Rings → ℕ → State
own_state Concrete family rings s = concrete_state family rings s
own_state Abstract family rings s = abstract_state family rings s

-- state s of a machine; past its states everything is zero
unfoldable pub ring_state : Kind → Family → Rings → ℕ → State
ring_state kind family rings s = cond (ltb s (ring_states kind family rings)) (own_state kind family rings s) (like 0 [] false)

-- of both rings, of an abstract machine those of the second
unfoldable pub start_states : Kind → Rings → ℕ
start_states Concrete rings = full_mask (min (rings.first + rings.second) 64)
start_states Abstract rings = bit_xor (full_mask (min (rings.first + rings.second) 64)) (full_mask (min rings.first 64))

-- a machine of two rings
unfoldable pub ring_machine : Kind → Family → Rings → Machine
ring_machine kind family rings = record {
  states = ring_states kind family rings;
  sets = rings.sets;
  start = start_states kind rings;
  observations = table 64 (λ s. (ring_state kind family rings s).observation);
  successors = table 64 (λ s. (ring_state kind family rings s).successors);
  fairness = table 8 (λ k. cond (ltb k rings.sets) (mask_of 64 (λ s. (ring_state kind family rings s).fair)) 0);
}

-- a pair of such machines, with no bit hidden
unfoldable pub ring_pair : Family → Rings → Rings → Pair
ring_pair family concrete abstraction = pair_under 0 (ring_machine Concrete family concrete) (ring_machine Abstract family abstraction)
