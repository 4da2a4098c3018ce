-- The three tests are made in the order of the definition, and each return is the first that fails.
use mathlib.Core.Path.{refl, sym, ◌∙◌}
use Prim.Native.Nat.{◌≤◌}
use native.Mathlib.Omega.{arith}
use Rattle.mask.specs.Bounded.{first}
use Rattle.mask.specs.BoundedLaws.{below_at, below_past}
use Rattle.machine.specs.WellFormedLaws.{well_pair}
use Rattle.machine.specs.Lassos.{lasso_length}
use Rattle.machine.specs.Player.{bad_step}
use Rattle.machine.specs.PlayerLaws.{good_length, refused_length, refused_step, refused_set, not_refused}
use Rattle.player.specs.Given.{lent}
use Rattle.player.proofs.Lasso.validity.Goals as goal
use Rattle.player.proofs.Lasso.validity.Goals.{After-first_missed_set}

pub returns-then-has_bad_length : goal.returns-then-has_bad_length
returns-then-has_bad_length c =
    let x = c.args in
    sym (refused_length x.formed.now.pair.now.concrete (lent x.self.now) (sym c.has_bad_length.ensures ∙ c.if-has_bad_length.true))

-- 13 is not refused
pub first_bad_step-requires : goal.first_bad_step-requires
first_bad_step-requires c = good_length (lent c.args.self.now) (sym c.has_bad_length.ensures ∙ c.if-has_bad_length.false)

pub returns-in-Some : goal.returns-in-Some
returns-in-Some c =
    let x = c.args in
    let at = below_at _ _ (sym c.first_bad_step.ensures ∙ c.in-Some.is) in
    sym (refused_step x.formed.now.pair.now.concrete (lent x.self.now) (sym c.has_bad_length.ensures ∙ c.if-has_bad_length.false) _ at.0 (rw at.0 at.1))

-- 14 is not refused
past : (c : After-first_missed_set) → let l = lent c.args.self.now in lasso_length l ≤ first (lasso_length l) (bad_step c.args.formed.now.pair.now.concrete l)
past c = below_past _ _ (sym c.first_bad_step.ensures ∙ c.in_default.is)

pub overflow_add-result : goal.overflow_add-result
overflow_add-result c = let at = below_at _ _ (sym c.first_missed_set.ensures ∙ c.in-Some-first_missed_set.is) in omega (arith, at.0, at.1, (well_pair c.args.formed.now.pair.now c.args.formed.now.well).concrete.sets_high)

pub returns-in-Some-first_missed_set : goal.returns-in-Some-first_missed_set
returns-in-Some-first_missed_set c =
    let x = c.args in
    let l = lent x.self.now in
    let at = below_at _ _ (sym c.first_missed_set.ensures ∙ c.in-Some-first_missed_set.is) in
    sym (refused_set x.formed.now.pair.now.concrete l (sym c.has_bad_length.ensures ∙ c.if-has_bad_length.false) _ refl (past (goal.at.returns-in-Some-first_missed_set c).After-first_missed_set) _
    at.0 (rw at.0 at.1))

pub returns-in-None : goal.returns-in-None
returns-in-None c =
    let x = c.args in
    let l = lent x.self.now in
    sym (not_refused x.formed.now.pair.now.concrete l (sym c.has_bad_length.ensures ∙ c.if-has_bad_length.false) _ refl (past (goal.at.returns-in-None c).After-first_missed_set) _
    refl (below_past _ _ (sym c.first_missed_set.ensures ∙ c.in-None.is)))
