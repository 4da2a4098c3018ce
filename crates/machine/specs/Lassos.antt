-- Document 01, "Machines", second part: lassos and endless play.
use Rattle.std.specs.Prelude.{Bool, true, cond, List, ◌≡◌, ℕ, suc, ◌+◌, ◌-◌, ◌%◌, length, get_or, ltb}
use Rattle.mask.specs.Logic.{and}
use Rattle.mask.specs.Bounded.{every, some}
use Rattle.machine.specs.declared.Machine.{Machine}
use Rattle.machine.specs.Machines.{observation, moves, starts, in_fair_set, same_observation}

-- "A lasso is a stem (may be empty) and a loop of at least one state"
pub record Lasso : Type 0 where
  pub stem : List ℕ
  pub loop : List ℕ

-- the lasso that is given as two lists
abbrev pub given : List ℕ → List ℕ → Lasso
given stem loop = record { stem = stem; loop = loop }

-- how many states stem and loop have together
abbrev pub lasso_length : Lasso → ℕ
lasso_length l = length l.stem + length l.loop

-- "the state at moment t, counted from 0, is stem state t if t is below p, else loop state (t − p) modulo q"
unfoldable pub moment : Lasso → ℕ → ℕ
moment l t = cond (ltb t (length l.stem)) (get_or l.stem t 0) (get_or l.loop ((t - length l.stem) % length l.loop) 0)

-- "each next state a successor of the one before, the loop's first a successor of its last": after the loop's last state comes, in
-- endless play, its first
unfoldable pub is_lasso : Machine → Lasso → Bool
is_lasso m l =
    and (ltb 0 (length l.loop))
    (every (lasso_length l) (λ t. and (ltb (moment l t) m.states) (moves m (moment l t) (moment l (suc t)))))

-- "It is fair if each set has a state in the loop."
unfoldable pub is_fair : Machine → Lasso → Bool
is_fair m l = every m.sets (λ k. some (length l.loop) (λ i. in_fair_set m k (get_or l.loop i 0)))

-- "A lasso is from a start state if the first state of its endless play is one."
unfoldable pub from_start : Machine → Lasso → Bool
from_start m l = starts m (moment l 0)

-- a fair lasso from a start state
unfoldable pub is_play : Machine → Lasso → Bool
is_play m l = and (is_lasso m l) (and (is_fair m l) (from_start m l))

-- "for every t, the two states at moment t have equal observations", l of the machine m and k of the machine m'; by document 02, No. 4, "about
-- the bits not hidden"
unfoldable pub SameObservations : ℕ → Machine → Lasso → Machine → Lasso → Type 0
SameObservations hidden m l m' k = (t : ℕ) → same_observation hidden (observation m (moment l t)) (observation m' (moment k t)) ≡ true
