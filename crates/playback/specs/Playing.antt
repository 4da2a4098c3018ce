-- A file's bytes and a lasso of its concrete machine in, the abstract machine's run out: what is said, and what is left in the lent buffer.
use Rattle.std.specs.Prelude.{cond, List, [], ◌∷◌, ℕ, ◌+◌, ◌*◌, length, Err, None, Ok, Option, Some}
use Rattle.machine.specs.Refusals.{four_numbers, and_then, buffer_validity, buffer_after, Answer}
use Rattle.machine.specs.Verdict.{no_table}
use Rattle.machine.specs.Lassos.{Lasso}
use Rattle.machine.specs.Player.{run_room, run, player_answer}
use Rattle.codec.specs.Reader.{pair_of, note_of}
use Rattle.codec.specs.Outcomes.{table_in, outcome_by}
use Rattle.machine.specs.declared.Run.{Run}
use Rattle.std.proofs.lemmas.List.Edits.{sets}

-- the whole answer: 1 of the lent buffer before all else, then the reader's refusals, then what the player says, or that there is no table
unfoldable pub file_run : List ℕ → Lasso → List ℕ → Answer (Option Run)
file_run f l buffer = and_then (buffer_validity run_room (length buffer)) (outcome_by (λ p T. player_answer p T l buffer) f)

-- the lent buffer's final content: the run at its front, and nothing where there is no table
unfoldable pub file_run_buffer : List ℕ → Lasso → List ℕ → List ℕ
file_run_buffer f l buffer = buffer_after (file_run f l buffer) (cond (note_of f) (run (pair_of f) (table_in f) l) []) buffer

-- for C: stem length × 65,536 + loop length, 0 where there is no run
unfoldable pub run_number : Answer (Option Run) → ℕ
run_number (Ok (Some r)) = r.stem * 65536 + r.cycle
run_number (Ok None) = 0
run_number (Err r) = 0

-- and the final content of the list of four that is given for a refusal's numbers: that there is no table is told as a refusal is, with the number 101
-- and zeros; beside a run it is unchanged
unfoldable pub run_spot : Answer (Option Run) → List ℕ → List ℕ
run_spot (Ok (Some r)) spot = spot
run_spot (Ok None) spot = sets spot 0 (no_table ∷ 0 ∷ 0 ∷ 0 ∷ [])
run_spot (Err r) spot = sets spot 0 (four_numbers r)
