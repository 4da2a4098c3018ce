-- Document 02, No. 7: what refusal 21 tells, and what an empty set means for plays. The proofs are in EmptySetsLaws.antt.
use Rattle.std.specs.Prelude.{true, false, ◌⊎◌, ◌↔◌, ◌≡◌, ℕ, suc, ◌<◌, ◌^◌, Err}
use Rattle.machine.specs.declared.Machine.{Machine}
use Rattle.machine.specs.declared.Pair.{Pair}
use Rattle.machine.specs.declared.Refusal.{Refusal}
use Rattle.machine.specs.Machines.{fair_set, in_fair_set}
use Rattle.machine.specs.WellFormed.{has_empty_set, nonempty_sets, nonempty_validity, well_formed}
use Rattle.machine.specs.Lassos.{Lasso, is_fair}
use Rattle.machine.specs.declared.Refusal.TheVariants.{EmptySet}

-- set k of a machine, counted from 0, has no state, and each lower set is no empty mask
pub record LowestEmpty (m : Machine) (k : ℕ) : Type 0 where
  pub within : k < m.sets
  pub no_state : (s : ℕ) → in_fair_set m k s ≡ false
  pub lower : (i : ℕ) → i < k → fair_set m i ≡ 0 → ⊥

-- "a set without a state, the spot being machine and set from 1": the lowest, and the concrete machine first
abbrev pub TellsEmptySet : Pair → Refusal → Type 0
TellsEmptySet p r =
    ((k : ℕ) × (r ≡ EmptySet 0 (suc k)) × LowestEmpty p.concrete k)
    ⊎ ((k : ℕ) × (r ≡ EmptySet 1 (suc k)) × (has_empty_set p.concrete ≡ false) × LowestEmpty p.abstraction k)

-- of well-formed machines of which some set is empty, 21 is said, and nothing else
abbrev pub EmptySetTold : Type 0
EmptySetTold = (p : Pair) → well_formed p ≡ true → nonempty_sets p ≡ false → (r : Refusal) × (nonempty_validity p ≡ Err r) × TellsEmptySet p r

-- each set of a machine has a state; masks have 64 bits
abbrev pub SetsHaveStates : Machine → Type 0
SetsHaveStates m = (k : ℕ) → k < m.sets → fair_set m k < 2 ^ 64 → (s : ℕ) × (s < m.states) × (in_fair_set m k s ≡ true)

-- "machines whose sets all have a state": what the test means
abbrev pub NonemptyHasState : Type 0
NonemptyHasState = (p : Pair) → well_formed p ≡ true → (nonempty_sets p ≡ true) ↔ (SetsHaveStates p.concrete × SetsHaveStates p.abstraction)

-- "no play of it counts": a machine with an empty set has no fair lasso
abbrev pub EmptySetIsUnfair : Type 0
EmptySetIsUnfair = (m : Machine) (l : Lasso) → has_empty_set m ≡ true → is_fair m l ≡ false
