-- What is shown of moves that follow a table that passes each line, whoever made it. Each statement is a type that holds all its hypotheses; Theorems.antt
-- of proofs/ gives a proof of each. T is any list of entries, of any length.
use Rattle.std.specs.Prelude.{true, List, ◌≢◌, ◌≡◌, ℕ, suc, ◌+◌, ◌*◌, ◌≤◌, ◌<◌, length}
use Rattle.machine.specs.declared.Machine.{Machine}
use Rattle.machine.specs.declared.Pair.{Pair}
use Rattle.machine.specs.Machines.{n_c, n_a, sets_c, sets_a, pairs, moves, in_fair_set}
use Rattle.machine.specs.WellFormed.{well_formed}
use Rattle.machine.specs.Lassos.{Lasso, moment, is_lasso, is_fair}
use Rattle.machine.specs.Table.{entry}
use Rattle.machine.specs.Ranks.{set_of}
use Rattle.machine.specs.Lines.{non_blank, passes_each}
use Rattle.goalbound.specs.Following.{state_at, IsMoves, IsCut, LeastPartner, NoneBefore, Follows, IsGoal, MeetsGoal}

-- what is said of any section j of a passing table
abbrev pub EachSection : (Pair → List ℕ → ℕ → Type 0) → Type 0
EachSection Said = (p : Pair) (T : List ℕ) → well_formed p ≡ true → passes_each p T ≡ true → (j : ℕ) → j < sets_a p → Said p T j

-- "By the first state of stretch m × P + 1 a goal of that section has been met, however the rig moved." That state ends stretch m × P, so that m × P
-- stretches are enough.
abbrev pub GoalIsMet : Type 0
GoalIsMet = EachSection (λ p T j. (rig score : List ℕ) → Follows p T j rig score
    → (cut : ℕ → ℕ) → IsCut p.concrete rig (sets_c p * pairs p) cut → MeetsGoal p T j rig score (cut (sets_c p * pairs p)))

-- and already by the first state of stretch r + 1, r being the entry of the first pair
abbrev pub GoalByEntry : Type 0
GoalByEntry = EachSection (λ p T j. (rig score : List ℕ) → Follows p T j rig score → let r = entry p T j (state_at rig 0) (state_at score 0) in
    (cut : ℕ → ℕ) → IsCut p.concrete rig r cut → MeetsGoal p T j rig score (cut r))

-- why: a move out of a pair with entry r > 0, met with a partner of least entry, leads to an entry of at most r, and below r if the state left is in the
-- rig set of r's k, which is counted from 0 here
pub record Falls (p : Pair) (T : List ℕ) (j c a d b : ℕ) : Type 0 where
  pub covered : non_blank p T j d b ≡ true
  pub stays : entry p T j d b ≤ entry p T j c a
  pub falls : in_fair_set p.concrete (set_of (sets_c p) (entry p T j c a)) c ≡ true → entry p T j d b < entry p T j c a

abbrev pub EntriesFall : Type 0
EntriesFall = EachSection (λ p T j. (c a d b : ℕ) → c < n_c p → a < n_a p → d < n_c p → non_blank p T j c a ≡ true → entry p T j c a ≢ 0
    → moves p.concrete c d ≡ true → LeastPartner p T j a d b → Falls p T j c a d b)

-- a pair with entry 0 is a goal
abbrev pub ZeroIsGoal : Type 0
ZeroIsGoal = EachSection (λ p T j. (c a : ℕ) → c < n_c p → a < n_a p → entry p T j c a ≡ 0 → IsGoal p T j c a)

-- ---- that such moves exist
-- until an entry 0 is met, whichever partners of least entry were taken, each further rig move has one
abbrev pub PartnerIsThere : Type 0
PartnerIsThere = EachSection (λ p T j. (rig score : List ℕ) → Follows p T j rig score → (t : ℕ) → t < length rig → NoneBefore p T j rig score (suc t)
    → (d : ℕ) → d < n_c p → moves p.concrete (state_at rig t) d ≡ true → (b : ℕ) × LeastPartner p T j (state_at score t) d b)

-- so any list of rig moves can be followed, from any pair that is not blank
abbrev pub CanBeFollowed : Type 0
CanBeFollowed = EachSection (λ p T j. (rig : List ℕ) → IsMoves p.concrete rig → (a : ℕ) → a < n_a p → non_blank p T j (state_at rig 0) a ≡ true
    → (score : List ℕ) × (state_at score 0 ≡ a) × Follows p T j rig score)

-- the states are those of a lasso's endless play, from its beginning
abbrev pub Along : Lasso → List ℕ → Type 0
Along l states = (t : ℕ) → t < length states → state_at states t ≡ moment l t

-- where a fair lasso begins, a list of moves with any number n of stretches does: along the lasso, to the end of its stem and n rounds of the loop
pub record Stretched (m : Machine) (l : Lasso) (n : ℕ) : Type 0 where
  pub states : List ℕ
  pub cut : ℕ → ℕ
  pub along : Along l states
  pub reaches : length l.stem + n * length l.loop < length states
  pub is_moves : IsMoves m states
  pub stretches : IsCut m states n cut

abbrev pub FairLassoHasStretches : Type 0
FairLassoHasStretches = (m : Machine) (l : Lasso) → is_lasso m l ≡ true → is_fair m l ≡ true → (n : ℕ) → Stretched m l n

-- and along a fair lasso a goal is met when, after the stem, as many rounds of the loop are over as the entry of the first pair says, or before
abbrev pub FairLassoMeetsGoal : Type 0
FairLassoMeetsGoal = EachSection (λ p T j. (l : Lasso) → is_lasso p.concrete l ≡ true → is_fair p.concrete l ≡ true
    → (rig score : List ℕ) → Follows p T j rig score → Along l rig
    → let last = length l.stem + entry p T j (state_at rig 0) (state_at score 0) * length l.loop in last < length rig → MeetsGoal p T j rig score last)
