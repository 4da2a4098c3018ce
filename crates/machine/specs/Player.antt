-- Document 01, "Player", with the single step of document 02, No. 10, and refusals 13 to 16.
use Rattle.std.specs.Prelude.{Bool, cond, List, ℕ, zero, suc, ◌+◌, ◌-◌, ◌*◌, length, get_or, eqb, ltb, leb, Err, Ok, Option}
use Rattle.mask.specs.Logic.{not, and, or}
use Rattle.mask.specs.Bounded.{some, first}
use Rattle.mask.specs.Tables.{table}
use Rattle.machine.specs.declared.Machine.{Machine}
use Rattle.machine.specs.declared.Pair.{Pair}
use Rattle.machine.specs.declared.Run.{Run}
use Rattle.machine.specs.Refusals.{Tested, valid, and_then, buffer_validity, buffer_after, Answer}
use Rattle.machine.specs.Machines.{successors, moves, starts, in_fair_set, next, sets_a}
use Rattle.machine.specs.WellFormed.{pair_validity}
use Rattle.machine.specs.Lassos.{Lasso, lasso_length, moment}
use Rattle.machine.specs.Step.{partner, single_step, found, state_of}
use Rattle.machine.specs.Table.{table_room, entry}
use Rattle.machine.specs.Lines.{non_blank, lines_validity}
use Rattle.machine.specs.declared.Refusal.TheVariants.{BadLassoLength, BadLassoStep, NoStartPartner, UnfairLasso}

-- 13: "empty loop, or over 64 states"
unfoldable pub has_bad_length : Lasso → Bool
has_bad_length l = or (eqb (length l.loop) 0) (ltb 64 (lasso_length l))

-- 14 at position i: "state number too large, first not a start, or step missing"; "the closing step has the loop's last position, other
-- steps that of the state entered"
unfoldable pub bad_step : Machine → Lasso → ℕ → Bool
bad_step m l i =
    or (leb m.states (moment l i))
    (or (cond (eqb i 0) (not (starts m (moment l 0))) (not (moves m (moment l (i - 1)) (moment l i))))
    (and (eqb (suc i) (lasso_length l)) (not (moves m (moment l i) (moment l (suc i))))))

-- 15: "set without a loop state"
unfoldable pub missed_set : Machine → Lasso → ℕ → Bool
missed_set m l k = not (some (length l.loop) (λ i. in_fair_set m k (get_or l.loop i 0)))

-- 13 to 15; the spot's set is counted from 1
unfoldable pub lasso_validity : Machine → Lasso → Tested
lasso_validity m l =
    let i = first (lasso_length l) (bad_step m l) in
    let k = first m.sets (missed_set m l) in
    cond (has_bad_length l) (Err BadLassoLength)
    (cond (ltb i (lasso_length l)) (Err (BadLassoStep i))
    (cond (ltb k m.sets) (Err (UnfairLasso (suc k))) valid))

-- the abstract state a and the section j
pub record Place : Type 0 where
  pub state : ℕ
  pub section : ℕ

module _ (p : Pair) (T : List ℕ) where
  -- "the start state of least entry in section 1"; "Ties go to the lowest number." Document 02, No. 10: "the first state is chosen as before"
  unfoldable pub start_partner : ℕ → Option ℕ
  start_partner c = partner p.abstraction.start (non_blank p T 0 c) (entry p T 0 c)

  -- 16: "first state has no non-blank start partner"
  unfoldable pub start_validity : Lasso → Tested
  start_validity l = cond (found (start_partner (moment l 0))) valid (Err NoStartPartner)

  -- "If the pair's entry is 0, j becomes the next section."
  unfoldable pub section_after : ℕ → Place → ℕ
  section_after c at = cond (eqb (entry p T at.section c at.state) 0) (next (sets_a p) at.section) at.section

  -- "The next a' is the successor of a with the least entry in section j beside c'." Document 02, No. 10: of these a itself if it is among them,
  -- else the lowest number
  unfoldable pub follow : ℕ → Place → ℕ → Option ℕ
  follow j at d = single_step at.state (successors p.abstraction at.state) (non_blank p T j d) (entry p T j d)

  unfoldable pub step_to : ℕ → Place → ℕ → Place
  step_to c at d = let j = section_after c at in record { state = state_of (follow j at d); section = j }

  -- the place at moment t
  unfoldable pub place_at : Lasso → ℕ → Place
  place_at l zero = record { state = state_of (start_partner (moment l 0)); section = 0 }
  place_at l (suc t) = step_to (moment l t) (place_at l t) (moment l (suc t))

  -- the moment of the loop start after x rounds
  abbrev pub loop_start : Lasso → ℕ → ℕ
  loop_start l x = length l.stem + x * length l.loop

  -- a and j at two loop starts are the same
  unfoldable pub same_place : Lasso → ℕ → ℕ → Bool
  same_place l x y =
      let u = place_at l (loop_start l x) in
      let v = place_at l (loop_start l y) in
      and (eqb u.state v.state) (eqb u.section v.section)

  -- "It stops when a and j at a loop start, j taken before that change, occurred at an earlier loop start, after at most 448 rounds."
  unfoldable pub last_round : Lasso → ℕ
  last_round l = first 449 (λ y. some y (λ x. same_place l x y))

  -- the earlier of the two
  unfoldable pub earlier_round : Lasso → ℕ
  earlier_round l = let y = last_round l in first y (λ x. same_place l x y)

  -- "The run ends before the later of the two, its stem before the earlier"
  unfoldable pub stem_length : Lasso → ℕ
  stem_length l = loop_start l (earlier_round l)

  unfoldable pub loop_length : Lasso → ℕ
  loop_length l = (last_round l - earlier_round l) * length l.loop

  unfoldable pub run : Lasso → List ℕ
  run l = table (loop_start l (last_round l)) (λ t. (place_at l t).state)

  -- 5, 9 to 16
  unfoldable pub play_validity : Lasso → Tested
  play_validity l =
      and_then (pair_validity p) (and_then (lines_validity p T) (and_then (lasso_validity p.concrete l) (start_validity l)))

-- what the player says of a lasso that it takes: stem length and loop length of the run
abbrev pub run_lengths : Pair → List ℕ → Lasso → Run
run_lengths p T l = record { stem = stem_length p T l; cycle = loop_length p T l }

-- the player's answer where its buffers are long enough
unfoldable pub play_answer : Pair → List ℕ → Lasso → Answer Run
play_answer p T l = and_then (play_validity p T l) (Ok (run_lengths p T l))

-- "a lent buffer of 28,672 bytes"
abbrev pub run_room : ℕ
run_room = 28672

-- all that the player tests, in document 01's order; the table and the buffer are lent
unfoldable pub all_validity : Pair → List ℕ → Lasso → List ℕ → Tested
all_validity p T l buffer =
    and_then (buffer_validity table_room (length T)) (and_then (buffer_validity run_room (length buffer)) (play_validity p T l))

-- the player's whole answer
unfoldable pub player_answer : Pair → List ℕ → Lasso → List ℕ → Answer Run
player_answer p T l buffer = and_then (all_validity p T l buffer) (Ok (run_lengths p T l))

-- and the buffer's final content: "buffer bytes past the run are unchanged"
unfoldable pub player_buffer : Pair → List ℕ → Lasso → List ℕ → List ℕ
player_buffer p T l buffer = buffer_after (all_validity p T l buffer) (run p T l) buffer
