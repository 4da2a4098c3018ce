-- Laws of the solver's whole result, and of a turn's.
use Rattle.std.specs.Prelude.{true, List, ◌++◌, ◌≡◌, ℕ, ◌≤◌, length, drop, Err, ltb}
use Rattle.std.proofs.Math.Path.{sym}
use Rattle.machine.specs.declared.Pair.{Pair}
use Rattle.machine.specs.declared.Refusal.{Refusal}
use Rattle.machine.specs.Refusals.{valid, buffer_validity}
use Rattle.machine.specs.RefusalsLaws.{then_of, then_refused, then_answer, valid_next, buffer_valid, buffer_made, buffer_kept, state_made, state_kept}
use borrow.Author.Tests.{ltb-false}
use Rattle.machine.specs.WellFormed.{well_formed, nonempty_validity}
use Rattle.machine.specs.WellFormedLaws.{valid_is_well}
use Rattle.machine.specs.EmptySetsLaws.{nonempty_at}
use Rattle.machine.specs.Table.{table_room}
use Rattle.machine.specs.Ranks.{rank_table, solver_table}
use Rattle.solver.specs.Families.{family_in, turn_rows}
use Rattle.solver.specs.Solver.{solve_validity, solved_table, turned_family, turned_table}

-- ---- the answer
module _ (p : Pair) where
  pub solve_short : (len : ℕ) {r : Refusal} → buffer_validity table_room len ≡ Err r → solve_validity p len ≡ Err r
  unfolding solve_validity
  solve_short len e = then_refused _ _ _ e

  pub solve_long : (len : ℕ) → table_room ≤ len → solve_validity p len ≡ nonempty_validity p
  unfolding solve_validity
  solve_long len h = then_of _ _ (buffer_valid table_room len h)

  -- a pair that passes is well formed, and the table long enough
  pub solve_passed : (len : ℕ) → solve_validity p len ≡ valid → (well_formed p ≡ true) × (table_room ≤ len)
  unfolding solve_validity buffer_validity
  solve_passed len e =
      let t = then_answer (buffer_validity table_room len) _ e in
      (valid_is_well p (nonempty_at p t.1).0, ltb-false len table_room (valid_next (ltb len table_room) _ _ t.0).0)

  pub solved_refused : (T : List ℕ) (r : Refusal) → solve_validity p (length T) ≡ Err r → T ≡ solved_table p T
  unfolding solved_table
  solved_refused T r e = sym (buffer_kept _ (solver_table p) T e)

  pub solved_valid : (T : List ℕ) → solve_validity p (length T) ≡ valid → solver_table p ++ drop (length (solver_table p)) T ≡ solved_table p T
  unfolding solved_table
  solved_valid T e = sym (buffer_made _ (solver_table p) T e)

  -- ---- a turn of a family
  pub turned_refused : (F T : List ℕ) (r : Refusal) → solve_validity p (length T) ≡ Err r → (F ≡ turned_family p F (length T)) × (T ≡ turned_table p F T)
  unfolding turned_family turned_table
  turned_refused F T r e = (sym (state_kept _ (turn_rows p F) F e), sym (buffer_kept _ _ T e))

  pub turned_valid : (F T : List ℕ) → solve_validity p (length T) ≡ valid
      → (turn_rows p F ≡ turned_family p F (length T)) × (rank_table p (family_in p F) ++ drop (length (rank_table p (family_in p F))) T ≡ turned_table p F T)
  unfolding turned_family turned_table
  turned_valid F T e = (sym (state_made _ (turn_rows p F) F e), sym (buffer_made _ _ T e))
