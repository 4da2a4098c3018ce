-- What is shown, over the definitions of document 01, of a table that passes each line and of the player. Each statement is a type that holds
-- all its hypotheses; Theorems.antt gives a proof of each.
use Rattle.std.specs.Prelude.{true, List, ◌≡◌, ℕ, suc, ◌+◌, ◌≤◌, ◌<◌, length, get_or, take, drop, Ok}
use Rattle.machine.specs.declared.Pair.{Pair}
use Rattle.machine.specs.Refusals.{valid}
use Rattle.machine.specs.WellFormed.{well_formed}
use Rattle.machine.specs.Machines.{successors}
use Rattle.machine.specs.Lassos.{Lasso, moment, is_play, SameObservations}
use Rattle.machine.specs.SingleStep.{Best, Chosen}
use Rattle.machine.specs.Table.{table_room, entry, SameEntries}
use Rattle.machine.specs.Lines.{non_blank, passes_each}
use Rattle.machine.specs.Verdict.{HasStarts, lines_verdict, check_verdict}
use Rattle.machine.specs.Player.{place_at, same_place, last_round, earlier_round, stem_length, loop_length, run, run_room, play_validity, player_answer, player_buffer}
use Rattle.machine.specs.declared.Verdict.TheVariants.{Carried}

-- the concrete lasso l has a fair lasso of the abstract machine, from a start state, with the same observation at every moment, in the bits that
-- are not hidden
abbrev pub Matched : Pair → Lasso → Type 0
Matched p l = (k : Lasso) × (is_play p.abstraction k ≡ true) × SameObservations p.hidden p.concrete l p.abstraction k

-- if a table passes each line and has the start pairs, every fair lasso of the concrete machine from a start state, of any length, is matched
abbrev pub PassingIsSound : Type 0
PassingIsSound = (p : Pair) (T : List ℕ) → well_formed p ≡ true → passes_each p T ≡ true
    → HasStarts p T
    → (l : Lasso) → is_play p.concrete l ≡ true → Matched p l

-- the same of what the check says
abbrev pub CarriedIsSound : Type 0
CarriedIsSound = (p : Pair) (T : List ℕ) (n : ℕ) → lines_verdict p T ≡ Ok (Carried n) → (l : Lasso) → is_play p.concrete l ≡ true → Matched p l

-- the player's run
pub record IsRun (p : Pair) (T : List ℕ) (l : Lasso) : Type 0 where
  -- it ends by its rule, after at most 448 rounds
  pub soon : last_round p T l ≤ 448
  pub order : earlier_round p T l < last_round p T l
  pub returns : same_place p T l (earlier_round p T l) (last_round p T l) ≡ true
  -- its run fits the buffer, and is stem and loop
  pub fits : length (run p T l) ≤ run_room
  pub whole : length (run p T l) ≡ stem_length p T l + loop_length p T l
  -- and is a fair lasso of the abstract machine from a start state
  pub fair : is_play p.abstraction (record { stem = take (stem_length p T l) (run p T l); loop = drop (stem_length p T l) (run p T l) }) ≡ true
  pub agrees : SameObservations p.hidden p.concrete l p.abstraction
      (record { stem = take (stem_length p T l) (run p T l); loop = drop (stem_length p T l) (run p T l) })

abbrev pub PlayerIsRight : Type 0
PlayerIsRight = (p : Pair) (T : List ℕ) (l : Lasso) → play_validity p T l ≡ valid → IsRun p T l

-- Document 02, No. 10: "The player's rule follows; the first state is chosen as before". The first state of the run is the start state of least
-- entry, the lowest of these; each later one is the one that the single step chooses in the state before it. The run has the states of the places.
pub record FollowsStep (p : Pair) (T : List ℕ) (l : Lasso) : Type 0 where
  pub states : (t : ℕ) → t < length (run p T l) → get_or (run p T l) t 0 ≡ (place_at p T l t).state
  pub first : let c = moment l 0 in Best p.abstraction.start (non_blank p T 0 c) (entry p T 0 c) (place_at p T l 0).state
  pub later : (t : ℕ) → let a = (place_at p T l t).state in let to = place_at p T l (suc t) in let d = moment l (suc t) in
      Chosen a (successors p.abstraction a) (non_blank p T to.section d) (entry p T to.section d) to.state

abbrev pub PlayerFollows : Type 0
PlayerFollows = (p : Pair) (T : List ℕ) (l : Lasso) → play_validity p T l ≡ valid → FollowsStep p T l

-- "those past n × P are neither read": tables with room and the same n × P entries get the same answer of the check
abbrev pub CheckUnread : Type 0
CheckUnread = (p : Pair) (T U : List ℕ) → table_room ≤ length T → table_room ≤ length U → SameEntries p T U → check_verdict p T ≡ check_verdict p U

-- and the same answer of the player, with the same bytes in the buffer
abbrev pub PlayerUnread : Type 0
PlayerUnread = (p : Pair) (T U : List ℕ) → table_room ≤ length T → table_room ≤ length U → SameEntries p T U → (l : Lasso) (buffer : List ℕ)
    → (player_answer p T l buffer ≡ player_answer p U l buffer) × (player_buffer p T l buffer ≡ player_buffer p U l buffer)
