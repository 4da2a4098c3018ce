-- The statements' proofs.
use Rattle.std.specs.Prelude.{List, ◌++◌, ◌≡◌, ℕ, ◌+◌, ◌≤◌, length, take, drop}
use Rattle.std.proofs.Common.{ap, ◌∙◌, arith, length-append, length-drop, take_at, drop_at}
use Rattle.std.proofs.lemmas.List.{take-append-le, drop-append-le}
use Rattle.machine.specs.declared.Pair.{Pair}
use Rattle.machine.specs.declared.Run.{Run}
use Rattle.machine.specs.Refusals.{valid}
use Rattle.machine.specs.RefusalsLaws.{then_answer, given_at, given_refused, buffer_room, buffer_made, buffer_kept}
use Rattle.machine.specs.Lassos.{Lasso}
use Rattle.machine.specs.Player.{run_room, all_validity, player_answer, player_buffer, play_validity, run, stem_length, loop_length}
use Rattle.soundness.specs.Statements.{IsRun}
use Rattle.soundness.specs.PlayerLaws.{playable, good_play, player_run}
use Rattle.player.specs.Statements.{run_in, RunGiven, GivenRunIsRight, RefusalKeepsBuffer}

pub refusal_keeps_buffer : RefusalKeepsBuffer
unfolding player_answer player_buffer
refusal_keeps_buffer p T l buffer r e = buffer_kept _ _ _ (given_refused _ _ e)

-- ---- the run in the buffer
-- of a list with something after it, its front and its rest
cut_front : (s q : ℕ) (out rest : List ℕ) → length out ≡ s + q → take s (out ++ rest) ≡ take s out
cut_front s q out rest e = take-append-le s out rest (omega arith)

cut_back : (s q : ℕ) (out rest : List ℕ) → length out ≡ s + q → take q (drop s (out ++ rest)) ≡ drop s out
cut_back s q out rest e =
    rw (drop-append-le s out rest (omega arith)) (take_at (drop s out) rest q (length-drop s out ∙ omega arith))

module _ (p : Pair) (T : List ℕ) (l : Lasso) (buffer : List ℕ) (tested : all_validity p T l buffer ≡ valid) where
  buffer_is : player_buffer p T l buffer ≡ run p T l ++ drop (length (run p T l)) buffer
  unfolding player_buffer
  buffer_is = buffer_made _ _ _ tested

  tests : (run_room ≤ length buffer) × (play_validity p T l ≡ valid)
  unfolding all_validity
  tests =
      let b = then_answer _ _ (then_answer _ _ tested).1 in
      (buffer_room run_room (length buffer) b.0, b.1)

  run_is : IsRun p T l
  run_is = player_run p T l (playable p T l tests.1)

  -- the bytes that the answer tells of are the run
  bytes_are : run_in (stem_length p T l) (loop_length p T l) (player_buffer p T l buffer)
      ≡ record { stem = take (stem_length p T l) (run p T l); loop = drop (stem_length p T l) (run p T l) }
  bytes_are =
      let s = stem_length p T l in
      let q = loop_length p T l in
      let rest = drop (length (run p T l)) buffer in
      rw buffer_is (λ i. record { stem = cut_front s q (run p T l) rest run_is.whole i; loop = cut_back s q (run p T l) rest run_is.whole i })

  given : RunGiven p T l buffer (stem_length p T l) (loop_length p T l)
  given = record {
    asked = good_play p.concrete l (playable p T l tests.1).good;
    fair = rw bytes_are run_is.fair;
    agrees = rw bytes_are run_is.agrees;
    fits = omega (arith, run_is.fits, run_is.whole);
    long = rw buffer_is (simp (length-append, length-drop) (omega (arith, run_is.fits, tests.0)));
    past = rw buffer_is (drop_at (run p T l) (drop (length (run p T l)) buffer) (stem_length p T l + loop_length p T l) run_is.whole
        ∙ ap (λ (n : ℕ). drop n buffer) run_is.whole);
  }

pub given_run_is_right : GivenRunIsRight
unfolding player_answer
given_run_is_right p T l buffer s q e =
    let u = given_at _ _ e in
    let stem : stem_length p T l ≡ s = ap (λ (r : Run). r.stem) u.1 in
    let loop : loop_length p T l ≡ q = ap (λ (r : Run). r.cycle) u.1 in
    rw (stem, loop) at (given p T l buffer u.0)
