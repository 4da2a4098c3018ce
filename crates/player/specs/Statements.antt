-- What is shown of the player's answer. Each statement is a type; Theorems.antt gives a proof of each.
use Rattle.std.specs.Prelude.{true, List, ◌≡◌, ℕ, ◌+◌, ◌≤◌, length, take, drop, Err, Ok}
use Rattle.machine.specs.declared.Pair.{Pair}
use Rattle.machine.specs.declared.Refusal.{Refusal}
use Rattle.machine.specs.Lassos.{Lasso, is_play, SameObservations}
use Rattle.machine.specs.Player.{run_room, player_answer, player_buffer}

-- the run in a buffer: its first s bytes are the stem, and the q after them the loop
abbrev pub run_in : ℕ → ℕ → List ℕ → Lasso
run_in s q bytes = record { stem = take s bytes; loop = take q (drop s bytes) }

-- a run with a stem of s states and a loop of q stands in the buffer
pub record RunGiven (p : Pair) (T : List ℕ) (l : Lasso) (buffer : List ℕ) (s q : ℕ) : Type 0 where
  -- the lasso that was handed in is a fair lasso of the concrete machine from a start state
  pub asked : is_play p.concrete l ≡ true
  -- the run is a fair lasso of the abstract machine from a start state
  pub fair : is_play p.abstraction (run_in s q (player_buffer p T l buffer)) ≡ true
  -- with the same observation at every moment, in the bits that are not hidden
  pub agrees : SameObservations p.hidden p.concrete l p.abstraction (run_in s q (player_buffer p T l buffer))
  -- it fits, and the bytes past it are unchanged
  pub fits : s + q ≤ run_room
  pub long : length (player_buffer p T l buffer) ≡ length buffer
  pub past : drop (s + q) (player_buffer p T l buffer) ≡ drop (s + q) buffer

abbrev pub GivenRunIsRight : Type 0
GivenRunIsRight = (p : Pair) (T : List ℕ) (l : Lasso) (buffer : List ℕ) (s q : ℕ) → player_answer p T l buffer ≡ Ok (record { stem = s; cycle = q }) → RunGiven p T l buffer s q

-- a refusal changes no buffer
abbrev pub RefusalKeepsBuffer : Type 0
RefusalKeepsBuffer = (p : Pair) (T : List ℕ) (l : Lasso) (buffer : List ℕ) (r : Refusal) → player_answer p T l buffer ≡ Err r → player_buffer p T l buffer ≡ buffer
