-- A file in, the same show with the solver's table out: what is said and what is left in the lent buffer.
use Rattle.std.specs.Prelude.{true, List, ℕ, length, Ok}
use Rattle.machine.specs.Refusals.{Tested, and_then, buffer_validity, buffer_after, Answer}
use Rattle.machine.specs.Ranks.{solver_table}
use Rattle.machine.specs.Table.{table_room}
use Rattle.codec.specs.Format.{file_of}
use Rattle.codec.specs.Reader.{pair_of, read_validity}
use Rattle.codec.specs.Writer.{file_room}
use Rattle.solver.specs.Solver.{solve_validity}

-- the show of the file f with the solver's table
unfoldable pub restored : List ℕ → List ℕ
restored f = let p = pair_of f in file_of p true (solver_table p)

-- all that is tested: 1 of the lent buffer, then all that the reader tests, then all that the solver tests, of which only 21 can still fail
unfoldable pub restore_validity : List ℕ → ℕ → Tested
restore_validity f room = and_then (buffer_validity file_room room) (and_then (read_validity f table_room) (solve_validity (pair_of f) table_room))

-- the new file's length, or a refusal
unfoldable pub restore_answer : List ℕ → List ℕ → Answer ℕ
restore_answer f buffer = and_then (restore_validity f (length buffer)) (Ok (length (restored f)))

-- the lent buffer's final content
unfoldable pub restore_buffer : List ℕ → List ℕ → List ℕ
restore_buffer f buffer = buffer_after (restore_validity f (length buffer)) (restored f) buffer
