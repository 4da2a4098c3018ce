-- Endless plays as sequences of moments, and the lasso that writes one down.
use Rattle.std.specs.Prelude.{true, List, ◌≡◌, ℕ, suc, ◌+◌, ◌-◌, ◌*◌, ◌≤◌, ◌<◌, length}
use Rattle.mask.specs.Tables.{table}
use Rattle.machine.specs.declared.Machine.{Machine}
use Rattle.machine.specs.declared.Pair.{Pair}
use Rattle.machine.specs.Machines.{moves, starts, in_fair_set}
use Rattle.machine.specs.Lassos.{Lasso, moment}
use Rattle.machine.specs.Player.{place_at, loop_start}

-- from moment p on, f has the same value q moments later
abbrev pub Again : {A : Type 0} → ℕ → ℕ → (ℕ → A) → Type 0
Again p q f = (t : ℕ) → p ≤ t → f (t + q) ≡ f t

-- the lasso with the first p values of f as its stem and the q after them as its loop
unfoldable pub lasso_of : ℕ → ℕ → (ℕ → ℕ) → Lasso
lasso_of p q f = record { stem = table p f; loop = table q (λ i. f (p + i)) }

-- the lasso l with its stem d states longer, the loop turned on by as much, and the loop written n times
unfoldable pub unrolled : Lasso → ℕ → ℕ → Lasso
unrolled l d n = lasso_of (length l.stem + d) (n * length l.loop) (moment l)

-- two lassos have the same endless play
abbrev pub SamePlay : Lasso → Lasso → Type 0
SamePlay l k = (t : ℕ) → moment l t ≡ moment k t

-- each set has a state in the loop
abbrev pub FairLoop : Machine → Lasso → Type 0
FairLoop m l = (k : ℕ) → k < m.sets → (i : ℕ) × (i < length l.loop) × (in_fair_set m k (moment l (length l.stem + i)) ≡ true)

-- what makes a lasso a fair lasso from a start state, as facts about its endless play
pub record Play (m : Machine) (l : Lasso) : Type 0 where
  pub some_loop : 0 < length l.loop
  pub bound : (t : ℕ) → moment l t < m.states
  pub step : (t : ℕ) → moves m (moment l t) (moment l (suc t)) ≡ true
  pub fair : FairLoop m l
  pub start : starts m (moment l 0) ≡ true

-- the player's run along the lasso l, with its stem before the loop start after x rounds and its loop up to the one after z rounds
abbrev pub run_between : Pair → List ℕ → Lasso → ℕ → ℕ → Lasso
run_between p T l x z = lasso_of (loop_start p T l x) ((z - x) * length l.loop) (λ t. (place_at p T l t).state)
