-- The invariant: the first e entries have been raised, one after the other.
use mathlib.Core.Path.{◌∙◌, refl}
use native.Mathlib.Omega.{arith}
use borrow.Author.Rules.{rules}
use Rattle.machine.specs.WellFormedLaws.{pairs_small}
use Rattle.brute.specs.LiftingLaws.{swept_next, swept_none}
use Rattle.brute.proofs.WellLaws.{well_in}
use Rattle.brute.proofs.lifting.sweep.Goals as goal

pub overflow_mul-e-end : goal.overflow_mul-e-end
overflow_mul-e-end c = omega (arith, pairs_small _ (well_in c.args.p))

pub loop-e-init : goal.loop-e-init
loop-e-init c = let x = c.args in (search rules, refl, swept_none x.p.pair.now x.table.now)

pub loop-e-preserved : goal.loop-e-preserved
loop-e-preserved c =
    let call = c.lift_entry in
    let x = c.args in
    (search rules, call.auto.table ∙ c.loop-e.invariant.1, swept_next x.p.pair.now x.table.now c.loop-e.e c.loop-e.invariant.2 call.ensures)
