-- The tests are made in the order of the definition, and each return is the first that fails.
use Rattle.std.proofs.Common.{ap, eq-eqb, le-ltb, lt-ltb, sym, ◌∙◌}
use borrow.Author.Tests.{ne_eqb}
use Rattle.std.proofs.Math.Path.{refl}
use Rattle.std.specs.Prelude.{Err, ℕ}
use Rattle.mask.specs.BoundedLaws.{below_at, below_past}
use Rattle.machine.specs.Refusals.{Tested}
use Rattle.machine.specs.WellFormed.{content_validity}
use Rattle.machine.specs.declared.Refusal.TheVariants.{NoSuccessor}
use Rattle.brute.proofs.machines.content.Goals as goal

pub returns-then-is_past : goal.returns-then-is_past
unfolding content_validity
returns-then-is_past c = rw (sym c.is_past.ensures ∙ c.if-is_past.true) refl

pub returns-then-m-eq0 : goal.returns-then-m-eq0
unfolding content_validity
returns-then-m-eq0 c = rw (sym c.is_past.ensures ∙ c.if-is_past.false, eq-eqb _ 0 c.if-m-eq0.true) refl

pub returns-in-Some : goal.returns-in-Some
unfolding content_validity
returns-in-Some c =
    let at = below_at 64 _ (sym c.first_empty.ensures ∙ c.in-Some.is) in
    rw (sym c.is_past.ensures ∙ c.if-is_past.false, ne_eqb _ 0 c.if-m-eq0.false, lt-ltb _ 64 at.1)
    (let refuse : ℕ → Tested = λ s. Err (NoSuccessor c.args.i s) in ap refuse at.0)

pub returns-in-None : goal.returns-in-None
unfolding content_validity
returns-in-None c = rw (sym c.is_past.ensures ∙ c.if-is_past.false, ne_eqb _ 0 c.if-m-eq0.false, le-ltb _ 64 (below_past 64 _ (sym c.first_empty.ensures ∙ c.in-None.is))) refl
