-- The code's place on the way along the lasso, and what the code knows of it.
use Rattle.std.specs.Prelude.{cond, List, ◌++◌, ◌≡◌, Option, Some, None, ℕ, suc, ◌+◌, ◌*◌, ◌%◌, ◌≤◌, ◌<◌, eqb, ltb, length, get_or, drop}
use Rattle.mask.specs.Tables.{front}
use Rattle.machine.specs.declared.Pair.{Pair}
use Rattle.machine.specs.Observed.{matched_masks}
use Rattle.machine.specs.Lassos.{Lasso, lasso_length}
use Rattle.machine.specs.Table.{table_room, AreEntries}
use Rattle.machine.specs.Player.{place_at, loop_start, last_round, run}
use Rattle.machine.specs.WellFormedLaws.{WellPair}
use Rattle.player.specs.declared.Place.{Place}

-- what a search in the table needs: M has the matched masks, and the entries have 16 bits, as their type gives them
pub record IsTabled (p : Pair) (M T : List ℕ) : Type 0 where
  pub well : WellPair p
  pub masks : M ≡ matched_masks p
  pub long : table_room ≤ length T
  pub entries : AreEntries T

-- the moment of a place, of a lasso whose loop has q states: its position, after its rounds
abbrev pub moment_of : ℕ → Place → ℕ
moment_of q at = at.position + at.round * q

-- the place with its position one on: after the last of `whole` positions comes that of the loop's start, one round later
unfoldable pub onward : ℕ → ℕ → Place → Place
onward start whole at =
    let again : Place = record { position = start; a = at.a; j = at.j; round = suc at.round } in
    let further : Place = record { position = suc at.position; a = at.a; j = at.j; round = at.round } in
    cond (eqb (suc at.position) whole) again further

-- how many loop starts lie before a place
unfoldable pub starts_before : ℕ → Place → ℕ
starts_before start at = cond (ltb start at.position) (suc at.round) at.round

-- the number, below 448, of a state a and a section j, for numbers of any size
unfoldable pub number_of : ℕ → ℕ → ℕ
number_of a j = a % 64 * 7 + j % 7

-- a place of a lasso
pub record Placed (l : Lasso) (at : Place) : Type 0 where
  pub within : at.position < lasso_length l
  pub stemmed : at.position < length l.stem → at.round ≡ 0

module _ (p : Pair) (T : List ℕ) (l : Lasso) where
  -- the code's place is the definition's at its moment
  pub record OnPlay (at : Place) : Type 0 where
    pub placed : Placed l at
    pub state : at.a ≡ (place_at p T l (moment_of (length l.loop) at)).state
    pub section : at.j ≡ (place_at p T l (moment_of (length l.loop) at)).section

  -- one step on
  pub record Stepped (at to : Place) : Type 0 where
    pub on : OnPlay to
    pub position : to.position ≡ (onward (length l.stem) (lasso_length l) at).position
    pub round : to.round ≡ (onward (length l.stem) (lasso_length l) at).round

  -- the number of a and j at the loop start after x rounds: where it is marked
  unfoldable pub place_number : ℕ → ℕ
  place_number x = let at = place_at p T l (loop_start p T l x) in number_of at.state at.section

  -- the marks of the first n loop starts: x where a and j of the one after x rounds are marked, and no other mark
  pub record Marks (n : ℕ) (marks : List (Option ℕ)) : Type 0 where
    pub long : length marks ≡ 448
    pub marked : (x : ℕ) → x < n → get_or marks (place_number x) None ≡ Some x
    pub no_other : (k x : ℕ) → k < 448 → get_or marks k None ≡ Some x → (x < n) × (place_number x ≡ k)

  -- a buffer into which the states of the first t moments are written
  unfoldable pub written_to : ℕ → List ℕ → List ℕ
  written_to t buffer = front t (λ t. (place_at p T l t).state) buffer

  -- and one into which the whole run is
  unfoldable pub written : List ℕ → List ℕ
  written buffer = run p T l ++ drop (length (run p T l)) buffer

  -- the player is at work: it is at a place on the play, at moment t, no later than its end, and has marked the loop starts and written the
  -- states that lie before
  pub record Playing (buffer run : List ℕ) (marks : List (Option ℕ)) (at : Place) (t : ℕ) : Type 0 where
    pub on : OnPlay at
    pub now : t ≡ moment_of (length l.loop) at
    pub early : starts_before (length l.stem) at ≤ last_round p T l
    pub marked : Marks (starts_before (length l.stem) at) marks
    pub bytes : run ≡ written_to t buffer
    pub long : length run ≡ length buffer

  -- the place at hand is not the end, and the loop starts up to it are marked
  pub record NotEnded (marks : List (Option ℕ)) (at : Place) : Type 0 where
    pub round : at.round < last_round p T l
    pub early : (to : Place) → Stepped at to → starts_before (length l.stem) to ≤ last_round p T l
    pub marked : (to : Place) → Stepped at to → Marks (starts_before (length l.stem) to) marks
