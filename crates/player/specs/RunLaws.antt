-- Laws of the run as it is written, one byte a moment.
use Rattle.std.specs.Prelude.{List, ◌≡◌, ℕ, ◌+◌, ◌-◌, ◌*◌, ◌≤◌, ◌<◌, length, set}
use Rattle.std.proofs.Math.Path.{refl}
use Rattle.std.proofs.Common.{arith}
use Rattle.mask.specs.TablesLaws.{table_length}
use Rattle.mask.specs.FrontLaws.{front_none, front_turn}
use Rattle.machine.specs.declared.Pair.{Pair}
use Rattle.machine.specs.WellFormedLaws.{mul_bound}
use Rattle.machine.specs.Lassos.{Lasso}
use Rattle.machine.specs.Player.{place_at, loop_start, last_round, earlier_round, stem_length, loop_length, run, run_lengths, run_room}
use Rattle.soundness.specs.PlayerLaws.{Playable, player_run}
use Rattle.player.specs.declared.Place.{Place}
use Rattle.player.specs.Places.{moment_of, Placed, written_to, written}

module _ (p : Pair) (T : List ℕ) (l : Lasso) where
  pub written_none : (buffer : List ℕ) → buffer ≡ written_to p T l 0 buffer
  unfolding written_to
  written_none buffer = front_none (λ t. (place_at p T l t).state) buffer

  pub written_more : (t : ℕ) (buffer : List ℕ) → t < length buffer → set (written_to p T l t buffer) t (place_at p T l t).state ≡ written_to p T l (t + 1) buffer
  unfolding written_to
  written_more t buffer h = front_turn (λ t. (place_at p T l t).state) buffer refl h refl

  -- the run is whole at the later of the two loop starts
  pub written_whole : (n : ℕ) (buffer : List ℕ) → last_round p T l ≡ n → written_to p T l (loop_start p T l n) buffer ≡ written p T l buffer
  unfolding written_to written run
  written_whole n buffer e = rw (e, table_length)

  pub run_said : (x y : ℕ) → last_round p T l ≡ y → earlier_round p T l ≡ x → record { stem = length l.stem + x * length l.loop; cycle = (y - x) * length l.loop } ≡ run_lengths p T l
  unfolding stem_length loop_length
  run_said x y last earlier = rw (last, earlier)

-- before the last round there is room
module _ {p : Pair} {T : List ℕ} {l : Lasso} (k : Playable p T l) where
  pub rounds_low : (x : ℕ) → x ≤ 448 → x * length l.loop ≤ run_room
  rounds_low x h = mul_bound x (length l.loop) 448 64 h (omega (arith, k.good.short))

  pub room_left : {at : Place} → Placed l at → at.round < last_round p T l → moment_of (length l.loop) at < run_room
  room_left {at} h b =
      let r : at.round ≤ 447 = omega (arith, (player_run p T l k).soon) in
      omega (arith, h.within, k.good.short, mul_bound at.round (length l.loop) 447 64 r (omega (arith, k.good.short)))
