-- The run's two lengths as one number, or the four numbers of what stands in its place: what the three cases of the definitions say.
use mathlib.Core.List.{List}
use Rattle.std.proofs.lemmas.List.Edits.{sets}
use Rattle.machine.specs.declared.Numbers.{Numbers}
use Rattle.machine.specs.Numbers.{four_of}
use mathlib.Core.Path.{◌≡◌, sym, ap, ◌∙◌}
use Prim.Native.Nat.{ℕ, ◌+◌, ◌≤◌}
use native.Mathlib.Omega.{arith}
use Rattle.std.specs.Prelude.{Option, Some}
use Rattle.machine.specs.declared.Run.{Run}
use Rattle.machine.specs.Lassos.{given}
use Rattle.machine.specs.Player.{run_room}
use Rattle.machine.specs.Refusals.{Answer, answer_in, spot_after}
use Rattle.playback.specs.Playing.{file_run}
use Rattle.playback.specs.PlayingLaws.{run_small, told_run, told_kept, told_bare, told_stopped}
use Rattle.playback.proofs.play_file.Goals as goal
use Rattle.playback.proofs.play_file.Goals.{After-told, In-Some-Some-unread}

-- what is told C is what is said of the file
told : (c : After-told) {o : Option (Option Run)} → c.told.result ≡ o →
    let x = c.args in answer_in (file_run x.bytes.now (given x.stem.now x.cycle.now) x.run.now) ≡ o
told c e = ap answer_in (sym c.play_bytes.ensures.answer) ∙ sym c.told.ensures.value ∙ e

spot : (c : After-told) → let x = c.args in c.told.new.spot ≡ spot_after (file_run x.bytes.now (given x.stem.now x.cycle.now) x.run.now) x.spot.now
spot c = c.told.ensures.numbers ∙ ap (λ (v : Answer (Option Run)). spot_after v c.args.spot.now) c.play_bytes.ensures.answer

-- the run's lengths are those of a run that fits its buffer
fits : (c : In-Some-Some-unread) → c.in-Some-Some.lengths.stem + c.in-Some-Some.lengths.cycle ≤ run_room
fits c =
    let x = c.args in
    let n = c.in-Some-Some in
    let said = ap answer_in (sym c.play_bytes.ensures.answer) ∙ sym c.told.ensures.value ∙ n.is ∙ ap Some n.field-0-is in
    run_small x.bytes.now (given x.stem.now x.cycle.now) x.run.now (told_run _ x.spot.now said).0

pub overflow_mul-result : goal.overflow_mul-result
overflow_mul-result c = omega (arith, fits c)

pub overflow_add-result : goal.overflow_add-result
overflow_add-result c = omega (arith, fits c)

pub returns-in-Some-Some : goal.returns-in-Some-Some
returns-in-Some-Some c =
    let a = (goal.at.returns-in-Some-Some c).After-told in
    let n = c.in-Some-Some in
    let t = told_run _ c.args.spot.now (told a (n.is ∙ ap Some n.field-0-is)) in
    record { value = t.1; content = c.play_bytes.ensures.content; numbers = spot a ∙ t.2 }

-- the four numbers go to the list as it was lent: beside an answer what is told leaves it
pub returns-in-Some-None : goal.returns-in-Some-None
unfolding four_of
returns-in-Some-None c =
    let x = c.args in
    let a = (goal.at.returns-in-Some-None c).After-told in
    let n = c.in-Some-None in
    let said = told a (n.is ∙ ap Some n.field-0-is) in
    let kept = spot a ∙ told_kept _ x.spot.now said in
    let put = c.put_refusal.ensures ∙ ap (λ (l : List ℕ). sets l 0 (four_of c.refuse.result)) kept ∙ ap (λ (n : Numbers). sets x.spot.now 0 (four_of n)) c.refuse.ensures in
    let t = told_bare _ x.spot.now said put in
    record { value = t.0; content = c.play_bytes.ensures.content; numbers = t.1 }

pub returns-in-None : goal.returns-in-None
returns-in-None c =
    let a = (goal.at.returns-in-None c).After-told in
    let t = told_stopped _ c.args.spot.now (told a c.in-None.is) in
    record { value = t.0; content = c.play_bytes.ensures.content; numbers = spot a ∙ t.1 }
