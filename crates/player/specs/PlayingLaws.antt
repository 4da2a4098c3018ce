-- One turn of the player's loop.
use Rattle.std.specs.Prelude.{List, Option, Some, None, ◌≡◌, refl, ℕ, suc, ◌+◌, ◌*◌, ◌≤◌, ◌<◌, length, get_or, set}
use Rattle.std.proofs.Common.{sym, ◌∙◌, arith, length-set}
use Rattle.std.proofs.Math.Path.{ap, ap₂}
use Rattle.machine.specs.declared.Pair.{Pair}
use Rattle.machine.specs.Lassos.{Lasso, moment}
use Rattle.machine.specs.Step.{state_of}
use Rattle.machine.specs.Player.{start_partner, place_at, loop_start, last_round, earlier_round, run_room}
use Rattle.soundness.specs.PlayerLaws.{Playable, player_run}
use Rattle.player.specs.declared.Place.{Place}
use Rattle.player.specs.Places.{moment_of, starts_before, number_of, place_number, Stepped, Marks, written, written_to, Playing, NotEnded}
use Rattle.player.specs.PlaceLaws.{onward_moment, before_none, before_start, before_round, before_le, start_passed, none_passed, start_on}
use Rattle.player.specs.MarkLaws.{number_low, no_marks, mark_met, mark_none, mark_more}
use Rattle.player.specs.RunLaws.{written_none, written_more, written_whole, rounds_low, room_left}

module _ {p : Pair} {T : List ℕ} {l : Lasso} (k : Playable p T l) where
  pub at_start : (buffer : List ℕ) (marks : List (Option ℕ)) (a : ℕ) → a ≡ state_of (start_partner p T (moment l 0)) → length marks ≡ 448
      → ((i : ℕ) → i < 448 → get_or marks i None ≡ None) → Playing p T l buffer buffer marks (record { position = 0; a = a; j = 0; round = 0 }) 0
  at_start buffer marks a e long z = record {
    on = start_on k a e;
    now = omega arith;
    early = omega (arith, before_none (length l.stem) a 0);
    marked = rw (before_none (length l.stem) a 0) (no_marks k marks long z);
    bytes = written_none p T l buffer;
    long = refl;
  }

  module _ {buffer run : List ℕ} {marks : List (Option ℕ)} {at : Place} {t : ℕ} (h : Playing p T l buffer run marks at t) where
    soon : last_round p T l ≤ 448
    soon = (player_run p T l k).soon

    pub round_low : at.round ≤ 448
    round_low = omega (arith, soon, h.early, before_le h.on.placed)

    pub now_low : t < run_room + 64
    now_low = omega (arith, h.now, h.on.placed.within, k.good.short, rounds_low k at.round round_low)

    -- ---- at a loop start
    module _ (e : at.position ≡ length l.stem) where
      before : starts_before (length l.stem) at ≡ at.round
      before = before_start h.on.placed e

      early_round : at.round ≤ last_round p T l
      early_round = omega (arith, h.early, before)

      round_marks : Marks p T l at.round marks
      round_marks = rw before at h.marked

      now_start : moment_of (length l.loop) at ≡ loop_start p T l at.round
      now_start = ap (λ (n : ℕ). n + at.round * length l.loop) e

      -- the run is whole where this is the later of the two
      pub run_written : last_round p T l ≡ at.round → run ≡ written p T l buffer
      run_written last = h.bytes ∙ ap (λ (t : ℕ). written_to p T l t buffer) (h.now ∙ now_start) ∙ written_whole p T l at.round buffer last

      -- the mark at the number of a and j
      module _ (number : ℕ) (numbered : number ≡ number_of at.a at.j) where
        number_is : number ≡ place_number p T l at.round
        unfolding place_number
        number_is = numbered ∙ ap₂ number_of (h.on.state ∙ ap (λ (t : ℕ). (place_at p T l t).state) now_start)
            (h.on.section ∙ ap (λ (t : ℕ). (place_at p T l t).section) now_start)

        -- a mark: the rule's end
        module _ (x : ℕ) (seen : get_or marks number None ≡ Some x) where
          pub met : (last_round p T l ≡ at.round) × (earlier_round p T l ≡ x)
          met = mark_met k round_marks x early_round (rw number_is at seen)

          pub earlier_low : x < at.round
          earlier_low = (round_marks.no_other number x (omega (arith, numbered, number_low at.a at.j)) seen).0

        -- no mark: the run goes on
        pub marked_on : get_or marks number None ≡ None → NotEnded p T l (set marks number (Some at.round)) at
        marked_on z =
            let none : get_or marks (place_number p T l at.round) None ≡ None = rw number_is at z in
            let further = mark_none k round_marks early_round none in
            let passed : (to : Place) → Stepped p T l at to → starts_before (length l.stem) to ≡ suc at.round =
            λ to s. start_passed s k.good.some_loop e in
            record {
              round = further;
              early = λ to s. omega (arith, passed to s);
              marked = λ to s. rw (passed to s, number_is) (mark_more k round_marks none);
            }

    -- ---- at any other place
    pub unmarked_on : (at.position ≡ length l.stem → ⊥) → NotEnded p T l marks at
    unmarked_on d =
        let same : (to : Place) → Stepped p T l at to → starts_before (length l.stem) to ≡ starts_before (length l.stem) at =
        λ to s. none_passed s k.good.some_loop d in
        record {
          round = before_round h.on.placed d (last_round p T l) (omega (arith, (player_run p T l k).order)) h.early;
          early = λ to s. omega (arith, same to s, h.early);
          marked = λ to s. rw (same to s) h.marked;
        }

    -- ---- one byte, and one step on
    module _ {marks' : List (Option ℕ)} (n : NotEnded p T l marks' at) where
      pub room : t < run_room
      room = omega (arith, h.now, room_left k h.on.placed n.round)

      pub plays_on : run_room ≤ length buffer → (to : Place) → Stepped p T l at to → Playing p T l buffer (set run t at.a) marks' to (t + 1)
      plays_on b to s = record {
        on = s.on;
        now = omega (arith, h.now, ap₂ (λ (x y : ℕ). x + y * length l.loop) s.position s.round, onward_moment h.on.placed);
        early = n.early to s;
        marked = n.marked to s;
        bytes =
            ap₂ (λ (r : List ℕ) (a : ℕ). set r t a) h.bytes (h.on.state ∙ ap (λ (t : ℕ). (place_at p T l t).state) (sym h.now))
            ∙ written_more p T l t buffer (omega (arith, room));
        long = length-set run t at.a ∙ h.long;
      }
