-- The line that `play` writes, as ASCII: `run 0 1 / 4 5 6`, `no table`, `refused NUMBER P Q R`, or how to call it.
use Rattle.std.specs.Prelude.{cond, List, [], ◌∷◌, ◌++◌, ℕ, take, drop, replicate, Err, None, Ok, Option, Some}
use Rattle.machine.specs.Refusals.{Answer}
use Rattle.machine.specs.Player.{run_room}
use Rattle.machine.specs.declared.Run.{Run}
use Rattle.report.specs.Text.{no_table_text, refusal_line}
use Rattle.playback.specs.Playing.{file_run, file_run_buffer}
use Rattle.playline.specs.Lasso.{readable, lasso_in, lasso_text}

-- the room that any line has: four bytes for each state of a run, and the words
abbrev pub line_room : ℕ
line_room = 114700

-- "run", the lasso, a line feed
unfoldable pub run_line : List ℕ → List ℕ → List ℕ
run_line stem loop = 114 ∷ 117 ∷ 110 ∷ (lasso_text stem loop ++ (10 ∷ []))

-- what is said, and the buffer that holds the run
unfoldable pub run_outcome_line : Answer (Option Run) → List ℕ → List ℕ
run_outcome_line (Ok (Some r)) run = run_line (take r.stem run) (take r.cycle (drop r.stem run))
run_outcome_line (Ok None) run = no_table_text
run_outcome_line (Err r) run = refusal_line r

-- "usage: play 0 1 / 2 3 < show.dom" and a line feed
abbrev pub usage_line : List ℕ
usage_line =
    117 ∷ 115 ∷ 97 ∷ 103 ∷ 101 ∷ 58 ∷ 32 ∷ 112 ∷ 108 ∷ 97 ∷ 121 ∷ 32 ∷ 48 ∷ 32 ∷ 49 ∷ 32 ∷ 47 ∷ 32 ∷ 50 ∷ 32 ∷ 51 ∷ 32 ∷ 60 ∷ 32 ∷ 115 ∷ 104 ∷ 111 ∷ 119 ∷ 46 ∷ 100 ∷ 111 ∷ 109 ∷ 10 ∷ []

-- the line for the file whose bytes these are and the lasso that the arguments' text writes; a run's buffer of zeros is lent
unfoldable pub play_line : List ℕ → List ℕ → List ℕ
play_line f text =
    let buffer : List ℕ = replicate run_room 0 in
    let said = run_outcome_line (file_run f (lasso_in text) buffer) (file_run_buffer f (lasso_in text) buffer) in
    cond (readable text) said usage_line
