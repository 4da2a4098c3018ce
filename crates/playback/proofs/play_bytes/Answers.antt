-- Each return is what the definitions say of the reading that led there, and with a table what the player says.
use mathlib.Core.Path.{◌≡◌, sym, ap, ◌∙◌}
use Rattle.std.specs.Prelude.{Ok, Some}
use Rattle.machine.specs.declared.Run.{Run}
use Rattle.machine.specs.Lassos.{given}
use Rattle.machine.specs.Refusals.{Answer, pass_on}
use Rattle.machine.proofs.Passing.{passed_on}
use Rattle.codec.specs.AnswersLaws.{read_taken, read_refused}
use Rattle.playback.specs.Playing.{file_run, file_run_buffer}
use Rattle.playback.specs.PlayingLaws.{run_short, run_refused, run_bare, run_played}
use Rattle.playback.proofs.play_bytes.Goals as goal
use Rattle.playback.proofs.play_bytes.Goals.{After-play}

pub returns-then-run-lt-RUN_ROOM : goal.returns-then-run-lt-RUN_ROOM
returns-then-run-lt-RUN_ROOM c =
    let x = c.args in
    let both = run_short x.bytes.now (given x.stem.now x.cycle.now) x.run.now c.if-run-lt-RUN_ROOM.true in
    record { answer = sym both.0; content = sym both.1 }

pub returns-in_err-has_table : goal.returns-in_err-has_table
returns-in_err-has_table c =
    let x = c.args in
    let both = run_refused x.bytes.now (given x.stem.now x.cycle.now) x.run.now c.if-run-lt-RUN_ROOM.false (read_refused _ c.read_file-show.ensures.answer c.in_err-has_table.was) in
    record { answer = passed_on c.from_residual.ensures ∙ sym both.0; content = sym both.1 }

pub returns-then-not-has_table : goal.returns-then-not-has_table
returns-then-not-has_table c =
    let told = c.in_ok-has_table.was ∙ ap Ok c.if-not-has_table.true in
    let x = c.args in
    let both = run_bare x.bytes.now (given x.stem.now x.cycle.now) x.run.now c.if-run-lt-RUN_ROOM.false (read_taken _ c.read_file-show.ensures.answer told) in
    record { answer = sym both.0; content = sym both.1 }

-- what the player says of the table is said of the file, and the buffer is as the player left it
played : (c : After-play) (v : Answer Run) → c.play.result ≡ v →
    let x = c.args in
    let f = x.bytes.now in
    let l = given x.stem.now x.cycle.now in
    (pass_on v (λ r. Ok (Some r)) ≡ file_run f l x.run.now) × (c.play.new.run ≡ file_run_buffer f l x.run.now)
played c v is =
    let read = c.read_file-show.ensures in
    let told = c.in_ok-has_table.was ∙ ap Ok c.if-not-has_table.false in
    let x = c.args in
    run_played x.bytes.now (given x.stem.now x.cycle.now) x.run.now c.if-run-lt-RUN_ROOM.false
    (read_taken _ read.answer told) read.content c.play.ensures.answer c.play.ensures.buffer is

pub returns-in_err-lengths : goal.returns-in_err-lengths
unfolding pass_on
returns-in_err-lengths c =
    let both = played (goal.at.returns-in_err-lengths c).After-play _ c.in_err-lengths.was in
    record { answer = passed_on c.from_residual-in_err-lengths.ensures ∙ both.0; content = both.1 }

pub returns : goal.returns
unfolding pass_on
returns c =
    let both = played (goal.at.returns c).After-play _ c.in_ok-lengths.was in
    record { answer = both.0; content = both.1 }
