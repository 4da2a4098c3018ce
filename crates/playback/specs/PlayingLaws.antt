-- Laws of a file's run: by what the reader says, what is answered and what is left in the buffer; and that a run fits the buffer.
use Rattle.std.proofs.Math.Bool.{true, false}
use Rattle.std.specs.Prelude.{List, [], ◌∷◌, ◌≡◌, ℕ, ◌+◌, ◌*◌, ◌≤◌, ◌<◌, length, drop, replicate, Err, None, Ok, Option, Some}
use Rattle.std.proofs.Math.Path.{refl, ap}
use Rattle.std.proofs.Common.{sym, ◌∙◌, arith, length-take}
use Rattle.std.proofs.lemmas.List.Edits.{sets}
use Rattle.std.proofs.lemmas.Option.{none-some, same_Some}
use Rattle.machine.specs.declared.Pair.{Pair}
use Rattle.machine.specs.declared.Refusal.{Refusal}
use Rattle.machine.specs.declared.Run.{Run}
use Rattle.machine.specs.Refusals.{pass_on, buffer_validity, buffer_after, spot_after, answer_in, Answer}
use Rattle.machine.specs.RefusalsLaws.{then_of, then_refused, then_answer, given_at, buffer_valid, buffer_short, buffer_room, buffer_made, buffer_kept, spot_kept}
use Rattle.machine.specs.Table.{table_room}
use Rattle.machine.specs.Verdict.{no_table}
use Rattle.machine.specs.Lassos.{Lasso}
use Rattle.machine.specs.Player.{run_room, run, all_validity, player_answer, player_buffer}
use Rattle.codec.specs.Reader.{taken, pair_of, read_answer}
use Rattle.codec.specs.Outcomes.{table_in, outcome_by}
use Rattle.codec.specs.OutcomesLaws.{outcome_refused, outcome_bare, outcome_taken, outcome_says, outcome_none}
use Rattle.codec.proofs.FileLaws.{was_taken}
use Rattle.soundness.specs.PlayLaws.{play_at}
use Rattle.player.specs.Statements.{RunGiven}
use Rattle.player.specs.Theorems.{given_run_is_right, refusal_keeps_buffer}
use Rattle.playback.specs.Playing.{file_run, file_run_buffer, run_number, run_spot}
use Rattle.machine.specs.declared.Refusal.TheVariants.{ShortBuffer}

-- what is left in the buffer after the player's answer, passed on, is what is left after its tests
after_tests : (p : Pair) (T : List ℕ) (l : Lasso) (buffer : List ℕ) (v : Answer Run) → player_answer p T l buffer ≡ v
    → buffer_after (pass_on v (λ r. Ok (Some r))) (run p T l) buffer ≡ player_buffer p T l buffer
unfolding pass_on buffer_after player_answer player_buffer
after_tests p T l buffer (Ok r) e = sym (buffer_made (all_validity p T l buffer) (run p T l) buffer (given_at _ _ e).0)
after_tests p T l buffer (Err r) e = sym (refusal_keeps_buffer p T l buffer r e)

module _ (f : List ℕ) (l : Lasso) (buffer : List ℕ) where
  -- what the player says of machines and a table
  abbrev call : Pair → List ℕ → Answer Run
  call p T = player_answer p T l buffer

  -- ---- where the call is stopped
  stopped : {r : Refusal} → file_run f l buffer ≡ Err r → (file_run f l buffer ≡ Err r) × (file_run_buffer f l buffer ≡ buffer)
  unfolding file_run_buffer
  stopped e = (e, buffer_kept _ _ buffer e)

  pub run_short : length buffer < run_room → (file_run f l buffer ≡ Err ShortBuffer) × (file_run_buffer f l buffer ≡ buffer)
  unfolding file_run
  run_short h = stopped (then_refused _ _ _ (buffer_short run_room (length buffer) h))

  module _ (room : run_room ≤ length buffer) where
    after_room : file_run f l buffer ≡ outcome_by call f
    unfolding file_run
    after_room = then_of _ _ (buffer_valid run_room (length buffer) room)

    pub run_refused : {r : Refusal} → read_answer f (replicate table_room 0) ≡ Err r → (file_run f l buffer ≡ Err r) × (file_run_buffer f l buffer ≡ buffer)
    run_refused e = stopped (after_room ∙ outcome_refused call f e)

    -- ---- by what was read
    pub run_bare : {p : Pair} → read_answer f (replicate table_room 0) ≡ Ok (taken p false)
        → (file_run f l buffer ≡ Ok None) × (file_run_buffer f l buffer ≡ buffer)
    unfolding file_run_buffer
    run_bare e =
        let said = after_room ∙ outcome_bare call f e in
        let note = (was_taken f (replicate table_room 0) _ false e).note_is in
        (said, buffer_made _ _ buffer said ∙ rw note)

    -- with a table, the buffer is as the player leaves it
    buffer_played : {p : Pair} → read_answer f (replicate table_room 0) ≡ Ok (taken p true) → file_run_buffer f l buffer ≡ player_buffer p (table_in f) l buffer
    unfolding file_run_buffer
    buffer_played {p} e =
        let was = was_taken f (replicate table_room 0) p true e in
        let said = after_room ∙ outcome_taken call f e refl refl in
        rw (said, was.note_is, was.pair_is) (after_tests p (table_in f) l buffer _ refl)

    -- what is said and left, by the player's answer v and the buffer that it left
    pub run_played : {p : Pair} {T left : List ℕ} {v w : Answer Run} → read_answer f (replicate table_room 0) ≡ Ok (taken p true) → T ≡ table_in f
        → v ≡ player_answer p T l buffer → left ≡ player_buffer p T l buffer → v ≡ w
        → (pass_on w (λ r. Ok (Some r)) ≡ file_run f l buffer) × (left ≡ file_run_buffer f l buffer)
    run_played {p} read same said kept is = (
      sym (after_room ∙ outcome_taken call f read same (sym is ∙ said)),
      kept ∙ ap (λ (T : List ℕ). player_buffer p T l buffer) same ∙ sym (buffer_played read),
    )

  -- ---- where there is an answer
  -- the buffer has room
  answered : {o : Option Run} → file_run f l buffer ≡ Ok o → (run_room ≤ length buffer) × (outcome_by call f ≡ Ok o)
  unfolding file_run
  answered e = let a = then_answer (buffer_validity run_room (length buffer)) _ e in (buffer_room run_room (length buffer) a.0, a.1)

  -- a run is the player's, and stands in the buffer as the player leaves it
  pub run_given : {r : Run} → file_run f l buffer ≡ Ok (Some r)
      → RunGiven (pair_of f) (table_in f) l buffer r.stem r.cycle × (file_run_buffer f l buffer ≡ player_buffer (pair_of f) (table_in f) l buffer)
  run_given {r} e =
      let a = answered e in
      let said = outcome_says call f a.1 in
      let is_pair_lem : pair_of f ≡ said.0 = (was_taken f (replicate table_room 0) said.0 true said.1).pair_is in
      rw is_pair_lem (given_run_is_right said.0 (table_in f) l buffer r.stem r.cycle said.2, buffer_played a.0 said.1)

  -- it fits its buffer
  pub run_small : {r : Run} → file_run f l buffer ≡ Ok (Some r) → r.stem + r.cycle ≤ run_room
  run_small e = (run_given e).0.fits

  -- its loop is not empty, so that its number is not 0
  pub run_loop : {r : Run} → file_run f l buffer ≡ Ok (Some r) → 0 < r.cycle
  run_loop {r} e =
      let fair = (run_given e).0.fair in
      omega (arith, (play_at _ _ fair).some_loop, length-take r.cycle (drop r.stem (player_buffer (pair_of f) (table_in f) l buffer)))

  -- ---- the buffer's length stays
  pub run_length : length (file_run_buffer f l buffer) ≡ length buffer
  run_length = go (file_run f l buffer) refl
    where
      go : (v : Answer (Option Run)) → file_run f l buffer ≡ v → length (file_run_buffer f l buffer) ≡ length buffer
      go (Ok (Some r)) e = let g = run_given e in ap length g.1 ∙ g.0.long
      go (Ok None) e = let a = answered e in ap length (run_bare a.0 (outcome_none call f a.1).1).1
      go (Err r) e = ap length (stopped e).1

-- ---- what C is told, by the answer
told_some : (v : Answer (Option Run)) {o : Option Run} → answer_in v ≡ Some o → v ≡ Ok o
unfolding answer_in
told_some (Ok p) {o} e = ap Ok (same_Some p o e)
told_some (Err r) {o} e = absurd (none-some o e)

module _ (v : Answer (Option Run)) (spot : List ℕ) where
  pub told_run : {r : Run} → answer_in v ≡ Some (Some r) → (v ≡ Ok (Some r)) × (r.stem * 65536 + r.cycle ≡ run_number v) × (spot_after v spot ≡ run_spot v spot)
  unfolding run_number run_spot spot_after
  told_run {r} e = let t = told_some v e in (t, sym (ap run_number t), rw t refl)

  -- beside an answer the list of four is as it was lent
  pub told_kept : {o : Option Run} → answer_in v ≡ Some o → spot_after v spot ≡ spot
  told_kept e = spot_kept spot (told_some v e)

  pub told_bare : {left : List ℕ} → answer_in v ≡ Some None → left ≡ sets spot 0 (no_table ∷ 0 ∷ 0 ∷ 0 ∷ []) → (0 ≡ run_number v) × (left ≡ run_spot v spot)
  unfolding run_number run_spot
  told_bare e w = let t = told_some v e in (sym (ap run_number t), rw t w)

  pub told_stopped : answer_in v ≡ None → (0 ≡ run_number v) × (spot_after v spot ≡ run_spot v spot)
  unfolding answer_in run_number run_spot spot_after
  told_stopped e = go v e
    where
      go : (u : Answer (Option Run)) → answer_in u ≡ None → (0 ≡ run_number u) × (spot_after u spot ≡ run_spot u spot)
      go (Ok o) z = absurd (none-some o (sym z))
      go (Err r) z = (refl, refl)
