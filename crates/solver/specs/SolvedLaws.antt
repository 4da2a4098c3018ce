-- What the solver leaves in a lent table with room, of well-formed machines whose sets all have a state.
use Rattle.std.specs.Prelude.{true, List, ◌++◌, ◌≡◌, ℕ, ◌≤◌, ◌<◌, length, get_or, drop}
use Rattle.std.proofs.Common.{◌∙◌, arith, length-append, length-drop}
use Rattle.machine.specs.declared.Pair.{Pair}
use Rattle.machine.specs.Refusals.{valid}
use Rattle.machine.specs.RefusalsLaws.{buffer_made}
use Rattle.machine.specs.WellFormed.{well_formed, nonempty_sets}
use Rattle.machine.specs.WellFormedLaws.{well_pair, entries_small}
use Rattle.machine.specs.EmptySetsLaws.{nonempty_valid}
use Rattle.machine.specs.Ranks.{solver_table}
use Rattle.machine.specs.Table.{table_room, entries}
use Rattle.machine.specs.EntriesLaws.{front_same}
use Rattle.theory.specs.RankLaws.{table_entries}
use Rattle.solver.specs.Solver.{solve_validity, solved_table}
use Rattle.solver.specs.SolverLaws.{solve_long}

module _ (p : Pair) (T : List ℕ) (well : well_formed p ≡ true) (nonempty : nonempty_sets p ≡ true) (room : table_room ≤ length T) where
  -- nothing is refused
  pub solve_takes : solve_validity p (length T) ≡ valid
  solve_takes = solve_long p (length T) room ∙ nonempty_valid p well nonempty

  -- the solver's own entries, and then what was there
  pub solved_is : solved_table p T ≡ solver_table p ++ drop (length (solver_table p)) T
  unfolding solved_table
  solved_is = buffer_made _ _ T solve_takes

  pub solved_same : (e : ℕ) → e < entries p → get_or (solved_table p T) e 0 ≡ get_or (solver_table p) e 0
  solved_same e l = rw solved_is (front_same p (solver_table p) _ (omega (arith, table_entries p)) e l)

  pub solved_room : table_room ≤ length (solved_table p T)
  solved_room = rw (solved_is, length-append, length-drop, table_entries p) (omega (arith, entries_small p (well_pair p well)))
