-- Document 02, No. 11: following a table in one section, stretches of rig moves, and the goal that is met. The rig is the concrete machine, the score
-- the abstract one; sections and sets are counted from 0, as in Machines.antt. Moves of a machine are a list of its states, from a first one on: moment t,
-- counted from 0, is place t of the list, and move t leads from moment t to the next. The score's states are a second list, as long as the rig's: they are
-- moves of the score up to the first pair with entry 0, and anything after it.
use Rattle.std.specs.Prelude.{Bool, true, List, ◌≢◌, ◌≡◌, ℕ, suc, ◌+◌, ◌-◌, ◌≤◌, ◌<◌, length, get_or}
use Rattle.mask.specs.Bounded.{every, some}
use Rattle.machine.specs.declared.Machine.{Machine}
use Rattle.machine.specs.declared.Pair.{Pair}
use Rattle.machine.specs.Machines.{n_a, successors, moves, in_fair_set}
use Rattle.machine.specs.Game.{mem, goals, family}
use Rattle.machine.specs.SingleStep.{Candidate}
use Rattle.machine.specs.Table.{entry}
use Rattle.machine.specs.Lines.{non_blank, goal_line}

abbrev pub state_at : List ℕ → ℕ → ℕ
state_at states t = get_or states t 0

-- a list of moves, given by its states: at least one state, each of the machine, each next one a successor of the one before
pub record IsMoves (m : Machine) (states : List ℕ) : Type 0 where
  pub some_state : 0 < length states
  pub bound : (t : ℕ) → t < length states → state_at states t < m.states
  pub step : (t : ℕ) → suc t < length states → moves m (state_at states t) (state_at states (suc t)) ≡ true

-- a stretch "has, for every rig set, a move that leaves a state of it": the moves from move u on, before move v. Move t leaves the state of moment t, also
-- if it leads back to it.
unfoldable pub is_stretch : Machine → List ℕ → ℕ → ℕ → Bool
is_stretch m states u v = every m.sets (λ k. some (v - u) (λ i. in_fair_set m k (state_at states (u + i))))

-- "consecutive stretches", n of them, from the first move on: stretch i, counted from 1, begins at moment cut (i − 1), with its first state, and ends
-- where the next begins. Moves past the last stretch may follow.
pub record IsCut (m : Machine) (states : List ℕ) (n : ℕ) (cut : ℕ → ℕ) : Type 0 where
  pub begins : cut 0 ≡ 0
  pub ends : cut n < length states
  pub stretch : (i : ℕ) → i < n → is_stretch m states (cut i) (cut (suc i)) ≡ true

module _ (p : Pair) (T : List ℕ) (j : ℕ) where
  -- b is "a partner of least entry" of the score state a, in section j, for a rig move to d: of the successors of a that are not blank beside d, any one
  -- with the least entry
  pub record LeastPartner (a d b : ℕ) : Type 0 where
    pub partner : Candidate (successors p.abstraction a) (non_blank p T j d) b
    pub least : (i : ℕ) → Candidate (successors p.abstraction a) (non_blank p T j d) i → entry p T j d b ≤ entry p T j d i

  -- no pair has entry 0 before moment t
  abbrev pub NoneBefore : List ℕ → List ℕ → ℕ → Type 0
  NoneBefore rig score t = (i : ℕ) → i < t → entry p T j (state_at rig i) (state_at score i) ≢ 0

  -- "Follow any table .. from any non-blank pair, in one section, meeting each rig move with a partner of least entry": until a pair has entry 0.
  -- What the score does after that is not looked at.
  pub record Follows (rig score : List ℕ) : Type 0 where
    pub rig_moves : IsMoves p.concrete rig
    pub as_long : length score ≡ length rig
    pub bound : state_at score 0 < n_a p
    pub covered : non_blank p T j (state_at rig 0) (state_at score 0) ≡ true
    pub meets : (t : ℕ) → suc t < length rig → NoneBefore rig score (suc t)
        → LeastPartner (state_at score t) (state_at rig (suc t)) (state_at score (suc t))

  -- the pair is a goal of section j, in both ways of saying it
  pub record IsGoal (c a : ℕ) : Type 0 where
    -- of the table: it has "entry 0: a is in score set j, and the pair steps into the non-blank pairs of the next section"
    pub zero : entry p T j c a ≡ 0
    pub line : goal_line p T j c a ≡ true
    -- of document 01's game: "a pair with a in score set j that steps into Z of the next section"
    pub goal : mem p (goals p (family p) j) c a ≡ true

  -- "a goal of that section has been met" by moment last: at a moment of the list, before which no pair had entry 0
  pub record MeetsGoal (rig score : List ℕ) (last : ℕ) : Type 0 where
    pub when : ℕ
    pub listed : when < length rig
    pub soon : when ≤ last
    pub before : NoneBefore rig score when
    pub goal : IsGoal (state_at rig when) (state_at score when)
