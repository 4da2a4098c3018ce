-- Laws of the player's answer: which test of document 01's order tells it.
use Rattle.std.specs.Prelude.{List, ◌≡◌, ℕ, ◌≤◌, ◌<◌, length, Err, None, Ok, Some}
use Rattle.std.proofs.Math.Logic.{⊎_elim, by_cases}
use Rattle.std.proofs.Math.Path.{sym}
use Rattle.std.proofs.Common.{◌∙◌, arith}
use Rattle.std.proofs.Math.Decide.{dec_lt}
use Rattle.machine.specs.declared.Pair.{Pair}
use Rattle.machine.specs.declared.Refusal.{Refusal}
use Rattle.machine.specs.Refusals.{valid}
use Rattle.machine.specs.RefusalsLaws.{then_of, then_refused, then_answer, then_cases, given_refused, buffer_valid, buffer_short, buffer_room, buffer_made, buffer_kept}
use Rattle.machine.specs.WellFormed.{pair_validity}
use Rattle.machine.specs.Lassos.{Lasso, moment}
use Rattle.machine.specs.Table.{table_room}
use Rattle.machine.specs.Lines.{lines_validity}
use Rattle.machine.specs.Verdict.{lines_verdict, check_verdict}
use Rattle.machine.specs.VerdictLaws.{lines_said}
use Rattle.machine.specs.Player.{lasso_validity, start_partner, play_validity, run_room, all_validity, run_lengths, player_answer, player_buffer}
use Rattle.machine.specs.PlayerLaws.{play_ill, play_fails, play_unfit, play_alone, play_valid}
use Rattle.player.specs.Places.{written}
use Rattle.machine.specs.declared.Refusal.TheVariants.{NoStartPartner, ShortBuffer}
use Rattle.machine.specs.declared.Verdict.{Verdict}

module _ (p : Pair) (T : List ℕ) where
  -- the table is long enough, the pair well formed, and each line passes
  pub record Passes : Type 0 where
    pub long : table_room ≤ length T
    pub pair : pair_validity p ≡ valid
    pub lines : lines_validity p T ≡ valid

  -- where the check refuses nothing
  pub check_tells : {v : Verdict} → check_verdict p T ≡ Ok v → Passes
  unfolding check_verdict
  check_tells {v} e =
      let a = then_answer _ _ e in
      let b = lines_said p T v a.1 in
      record { long = buffer_room table_room (length T) a.0; pair = b.0; lines = b.1 }

  module _ (l : Lasso) (buffer : List ℕ) where
    -- ---- where the call is stopped
    pub stopped_by : (r : Refusal) → all_validity p T l buffer ≡ Err r
        → (Err r ≡ player_answer p T l buffer) × (buffer ≡ player_buffer p T l buffer)
    unfolding player_answer player_buffer
    stopped_by r e = (sym (then_refused _ _ r e), sym (buffer_kept _ _ _ e))

    pub short_run : length buffer < run_room → all_validity p T l buffer ≡ Err ShortBuffer
    unfolding all_validity
    short_run h = by_cases (dec_lt (length T) table_room)
        (λ b. then_refused _ _ _ (buffer_short table_room (length T) b))
        (λ b. then_of _ _ (buffer_valid table_room (length T) (omega arith)) ∙ then_refused _ _ _ (buffer_short run_room (length buffer) h))

    module _ (room : run_room ≤ length buffer) where
      -- where both lent buffers are long enough, the other tests tell
      left : table_room ≤ length T → all_validity p T l buffer ≡ play_validity p T l
      unfolding all_validity
      left h = then_of _ _ (buffer_valid table_room (length T) h) ∙ then_of _ _ (buffer_valid run_room (length buffer) room)

      pub check_stops : (r : Refusal) → check_verdict p T ≡ Err r → all_validity p T l buffer ≡ Err r
      unfolding check_verdict lines_verdict all_validity
      check_stops r e = ⊎_elim
          (λ q. then_refused _ _ r q)
          (λ q. left (buffer_room table_room (length T) q.0) ∙ ⊎_elim
          (λ z. play_ill p T l r z)
          (λ z. play_fails p T l z.0 r (given_refused (lines_validity p T) _ z.1))
          (then_cases (pair_validity p) _ r q.1))
          (then_cases _ (lines_verdict p T) r e)

      module _ (h : Passes) where
        pub lasso_stops : (r : Refusal) → lasso_validity p.concrete l ≡ Err r → all_validity p T l buffer ≡ Err r
        lasso_stops r e = left h.long ∙ play_unfit p T l h.pair h.lines r e

        module _ (tested : lasso_validity p.concrete l ≡ valid) where
          pub start_stops : start_partner p T (moment l 0) ≡ None → all_validity p T l buffer ≡ Err NoStartPartner
          start_stops e = left h.long ∙ play_alone p T l h.pair h.lines tested e

          module _ (a : ℕ) (e : start_partner p T (moment l 0) ≡ Some a) where
            all_valid : all_validity p T l buffer ≡ valid
            all_valid = left h.long ∙ play_valid p T l h.pair h.lines tested a e

            -- ---- the run
            pub run_answer : Ok (run_lengths p T l) ≡ player_answer p T l buffer
            unfolding player_answer
            run_answer = sym (then_of _ _ all_valid)

            pub run_buffer : written p T l buffer ≡ player_buffer p T l buffer
            unfolding written player_buffer
            run_buffer = sym (buffer_made _ _ _ all_valid)
