-- Laws of what is compared of a pair.
use Rattle.std.specs.Prelude.{◌≡◌, refl, Bool, true, not, ℕ, Ok, Err}
use Rattle.std.specs.Result.{is_ok}
use Rattle.std.proofs.Common.{◌∙◌, sym, ap}
use Rattle.machine.specs.declared.Pair.{Pair}
use Rattle.machine.specs.Refusals.{Tested, valid}
use Rattle.machine.specs.RefusalsLaws.{then_answer}
use Rattle.machine.specs.EmptySetsLaws.{nonempty_at}
use Rattle.machine.specs.WellFormed.{is_valid, pair_validity, well_formed}
use Rattle.machine.specs.WellFormedLaws.{valid_is_well}
use Rattle.solver.specs.Solver.{solve_validity}

pub solved_well : (p : Pair) (n : ℕ) → solve_validity p n ≡ valid → well_formed p ≡ true
unfolding solve_validity
solved_well p n e = valid_is_well p (nonempty_at p (then_answer _ _ e).1).0

valid_is : (v : Tested) → is_valid v ≡ is_ok v
unfolding is_valid
valid_is (Ok t) = refl
valid_is (Err r) = refl

-- unless b, where b says that its test refuses
pub well_unless : (p : Pair) (b : Bool) {v : Tested} → v ≡ pair_validity p → is_ok v ≡ not b → well_formed p ≡ not b
unfolding well_formed
well_unless p b {v} e h = ap is_valid (sym e) ∙ valid_is v ∙ h
