-- Entries past n × P are not looked at: for each pair, lasso and buffer, the player says the same of two tables with the same n × P entries.
use Rattle.std.specs.Prelude.{List, ◌≡◌, Ok}
use Rattle.std.proofs.Math.Path.{refl, sym, ap}
use Rattle.std.proofs.Common.{◌∙◌}
use Prim.Native.Nat.{ℕ, zero, suc, ◌+◌, ◌*◌, ◌≤◌, ◌<◌}
use Rattle.std.proofs.Math.ListN.{length}
use Rattle.mask.specs.Logic.{and}
use Rattle.mask.specs.BoundedLaws.{first_cong, some_cong}
use Rattle.mask.specs.TablesLaws.{table_cong}
use Rattle.machine.specs.declared.Pair.{Pair}
use Rattle.machine.specs.Refusals.{valid}
use Rattle.machine.specs.RefusalsLaws.{then_answer, buffer_valid, then_same, after_same}
use Rattle.machine.specs.Machines.{matched, moves, starts, successors, n_c, n_a, sets_a}
use Rattle.machine.specs.WellFormedLaws.{WellPair, well_valid}
use Rattle.machine.specs.Lassos.{Lasso, moment}
use Rattle.machine.specs.Step.{state_of}
use Rattle.machine.specs.PartnerLaws.{partner_below}
use Rattle.machine.specs.SingleStepLaws.{single_below}
use Rattle.machine.specs.Table.{table_room, SameEntries}
use Rattle.machine.specs.EntriesLaws.{entry_same, covers_same, lines_same}
use Rattle.machine.specs.Lines.{non_blank}
use Rattle.machine.specs.Player.{Place, start_partner, start_validity, section_after, follow, step_to, place_at, same_place, last_round, earlier_round, stem_length, loop_length, run, run_lengths, play_validity, all_validity, player_answer, player_buffer}
use Rattle.soundness.specs.PlayLaws.{play_at}
use Rattle.soundness.specs.PlayerLaws.{GoodLasso, good_lasso, good_play, Playable, playable, playable_covered}

module _ (p : Pair) (T U : List ℕ) (same : SameEntries p T U) where
  -- ---- the rule's partners, among moves to states of the machine
  non_blank_unread : (j d i : ℕ) → j < sets_a p → d < n_c p → i < n_a p → non_blank p T j d i ≡ non_blank p U j d i
  unfolding non_blank
  non_blank_unread j d i hj hd h = ap (and (matched p d i)) (covers_same p T U same j d i hj hd h)

  module _ (w : WellPair p) where
    start_unread : (c : ℕ) → c < n_c p → start_partner p T c ≡ start_partner p U c
    unfolding start_partner starts
    start_unread c hc =
        let z = w.abstraction.sets_low in
        partner_below p.abstraction.start (n_a p) _ _ _ _ w.abstraction.start_bits (λ i. non_blank_unread 0 c i z hc) (λ i. entry_same p T U same 0 c i z hc)

    follow_unread : (j : ℕ) (at : Place) (d : ℕ) → j < sets_a p → d < n_c p → at.state < n_a p → follow p T j at d ≡ follow p U j at d
    unfolding follow moves
    follow_unread j at d hj hd ha = single_below at.state (successors p.abstraction at.state) (n_a p) _ _ _ _ (λ b. w.abstraction.move_bits at.state b ha)
        (λ i. non_blank_unread j d i hj hd) (λ i. entry_same p T U same j d i hj hd)

    starts_unread : (l : Lasso) → moment l 0 < n_c p → start_validity p T l ≡ start_validity p U l
    unfolding start_validity
    starts_unread l h = rw (start_unread (moment l 0) h)

    -- a step from a place whose state and section are the machines'
    step_unread : (c d : ℕ) (at : Place) → c < n_c p → d < n_c p → at.state < n_a p → at.section < sets_a p → (step_to p T c at d).section < sets_a p
        → step_to p T c at d ≡ step_to p U c at d
    unfolding step_to section_after
    step_unread c d at hc hd ha hj hk =
        rw (← entry_same p T U same at.section c at.state hj hc ha)
        (λ i. record {
          state = state_of (follow_unread _ at d hk hd ha i);
          section = section_after p T c at;
        })

  -- ---- a lasso that is not refused
  within : (l : Lasso) → GoodLasso p.concrete l → (t : ℕ) → moment l t < n_c p
  within l g = (play_at p.concrete l (good_play p.concrete l g)).bound

  module _ (l : Lasso) (k : Playable p T l) where
    place_unread : (t : ℕ) → place_at p T l t ≡ place_at p U l t
    unfolding place_at
    place_unread zero = rw (start_unread k.well (moment l 0) (within l k.good 0))
    place_unread (suc t) =
        step_unread k.well (moment l t) (moment l (suc t)) (place_at p T l t) (within l k.good t) (within l k.good (suc t)) (playable_covered k t).bound (playable_covered k t).section_bound (playable_covered k (suc t)).section_bound
        ∙ ap (λ at. step_to p U (moment l t) at (moment l (suc t))) (place_unread t)

    same_unread : (x y : ℕ) → same_place p T l x y ≡ same_place p U l x y
    unfolding same_place
    same_unread x y = rw (place_unread (length l.stem + x * length l.loop), place_unread (length l.stem + y * length l.loop))

    last_unread : last_round p T l ≡ last_round p U l
    unfolding last_round
    last_unread = first_cong _ _ _ (λ y h. some_cong _ _ _ (λ x h. same_unread x y))

    earlier_unread : earlier_round p T l ≡ earlier_round p U l
    unfolding earlier_round
    earlier_unread = rw last_unread (first_cong _ _ _ (λ x h. same_unread x (last_round p U l)))

    lengths_unread : run_lengths p T l ≡ run_lengths p U l
    unfolding stem_length loop_length
    lengths_unread = rw (last_unread, earlier_unread)

    run_unread : run p T l ≡ run p U l
    unfolding run
    run_unread = rw last_unread (table_cong _ _ _ (λ t h. ap (λ at. at.state) (place_unread t)))

  -- ---- the player
  play_same : (l : Lasso) → play_validity p T l ≡ play_validity p U l
  unfolding play_validity
  play_same l = then_same _ _ _ _ refl (λ v. then_same _ _ _ _ (lines_same p T U same) (λ _. then_same _ _ _ _ refl
      (λ g. starts_unread (well_valid p v) l (within l (good_lasso p.concrete l g) 0))))

  module _ (l : Lasso) (buffer : List ℕ) (long : table_room ≤ length T) (long' : table_room ≤ length U) where
    all_same : all_validity p T l buffer ≡ all_validity p U l buffer
    unfolding all_validity
    all_same = then_same _ _ _ _ (buffer_valid table_room (length T) long ∙ sym (buffer_valid table_room (length U) long')) (λ _. then_same _ _ _ _ refl (λ _. play_same l))

    tested : all_validity p T l buffer ≡ valid → Playable p T l
    unfolding all_validity
    tested e = playable p T l (then_answer _ _ (then_answer _ _ e).1).1

    pub answer_same : player_answer p T l buffer ≡ player_answer p U l buffer
    unfolding player_answer
    answer_same = then_same _ _ _ _ all_same (λ e. ap Ok (lengths_unread l (tested e)))

    pub buffer_same : player_buffer p T l buffer ≡ player_buffer p U l buffer
    unfolding player_buffer
    buffer_same = after_same _ _ _ _ _ all_same (λ e. run_unread l (tested e))
