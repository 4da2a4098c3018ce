-- The tests are made in the order of the definition, and each return is the first that fails.
use Rattle.std.proofs.Common.{arith, eqb-true, le-ltb, sym, ◌∙◌}
use borrow.Author.Tests.{eqb-false}
use Rattle.std.proofs.Math.Path.{refl}
use Rattle.std.specs.Prelude.{false, ◌≡◌}
use Rattle.mask.specs.BoundedLaws.{below_at, below_past}
use Rattle.brute.specs.Given.{lent}
use Rattle.machine.specs.Player.{has_bad_length}
use Rattle.machine.specs.PlayerLaws.{length_empty, length_over, length_whole, not_refused, refused_length, refused_set, refused_step}
use Rattle.brute.proofs.lassos.Lasso.fits.Goals as goal
use Rattle.brute.proofs.lassos.Lasso.fits.Goals.{Else-self-gt64}
use Rattle.brute.proofs.lassos.Lasso.fits.Goals.{then-is_empty-via-else-is_empty+then-self-gt64, then-is_empty-via-then-is_empty}

-- 13 is not refused
fit : (c : Else-self-gt64) → has_bad_length (lent c.args.self.now) ≡ false
fit c = length_whole (lent c.args.self.now) (eqb-false _ 0 (sym c.is_empty.ensures ∙ c.if-is_empty.false)) ∙ le-ltb 64 _ c.if-self-gt64.false

pub returns-then-is_empty : goal.returns-then-is_empty
returns-then-is_empty c =
    let l = lent c.args.self.now in
    elim c.then-is_empty.branch [
      | then-is_empty-via-then-is_empty w ↦ sym (refused_length c.args.m l (length_empty l (eqb-true _ 0 (sym c.is_empty.ensures ∙ w.if-is_empty.true))))
      | then-is_empty-via-else-is_empty+then-self-gt64 w ↦ sym (refused_length c.args.m l (length_over l w.if-self-gt64.true))
    ]

pub returns-in-Some : goal.returns-in-Some
returns-in-Some c =
    let l = lent c.args.self.now in
    let at = below_at _ _ (sym c.first_bad.ensures ∙ c.in-Some.is) in
    sym (refused_step c.args.m l (fit (goal.at.returns-in-Some c).Else-self-gt64) _ at.0 (rw at.0 at.1))

pub overflow_add-result : goal.overflow_add-result
overflow_add-result c = let at = below_at _ _ (sym c.first_missed.ensures ∙ c.in-Some-first_missed.is) in omega (arith, at.0, at.1)

pub returns-in-Some-first_missed : goal.returns-in-Some-first_missed
returns-in-Some-first_missed c =
    let l = lent c.args.self.now in
    let at = below_at _ _ (sym c.first_missed.ensures ∙ c.in-Some-first_missed.is) in
    sym (refused_set c.args.m l (fit (goal.at.returns-in-Some-first_missed c).Else-self-gt64) _ refl (below_past _ _ (sym c.first_bad.ensures ∙ c.in_default.is)) _ at.0 (rw at.0 at.1))

pub returns-in-None : goal.returns-in-None
returns-in-None c =
    let l = lent c.args.self.now in
    sym (not_refused c.args.m l (fit (goal.at.returns-in-None c).Else-self-gt64) _ refl (below_past _ _ (sym c.first_bad.ensures ∙ c.in_default.is)) _ refl
    (below_past _ _ (sym c.first_missed.ensures ∙ c.in-None.is)))
