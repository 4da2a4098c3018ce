-- The solver's whole result: refusals 1, 5, 9 to 11 and 21, and the lent table's final content, which is document 01's ranks entry by entry. And that of
-- a turn of a family, with the ranks over it.
use Rattle.std.specs.Prelude.{List, ℕ, length}
use Rattle.machine.specs.declared.Pair.{Pair}
use Rattle.machine.specs.Refusals.{Tested, and_then, buffer_validity, buffer_after, state_after}
use Rattle.machine.specs.WellFormed.{nonempty_validity}
use Rattle.machine.specs.Ranks.{rank_table, solver_table}
use Rattle.machine.specs.Table.{table_room}
use Rattle.solver.specs.Families.{family_in, turn_rows}

-- all that the solver tests, of a pair and of the length of the lent table
unfoldable pub solve_validity : Pair → ℕ → Tested
solve_validity p len = and_then (buffer_validity table_room len) (nonempty_validity p)

-- the lent table's final content: exactly n × P entries are written, and none beside a refusal
unfoldable pub solved_table : Pair → List ℕ → List ℕ
solved_table p T = buffer_after (solve_validity p (length T)) (solver_table p) T

-- of a family of any rows: the family that a turn makes of it, unchanged beside a refusal
unfoldable pub turned_family : Pair → List ℕ → ℕ → List ℕ
turned_family p F len = state_after (solve_validity p len) (turn_rows p F) F

-- and the lent table's final content, the ranks over the family
unfoldable pub turned_table : Pair → List ℕ → List ℕ → List ℕ
turned_table p F T = buffer_after (solve_validity p (length T)) (rank_table p (family_in p F)) T
