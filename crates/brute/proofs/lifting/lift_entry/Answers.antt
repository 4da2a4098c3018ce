-- An entry's number tells its section, c and a, which are within the counts.
use mathlib.Core.Path.{◌∙◌, sym}
use native.Mathlib.Omega.{arith}
use Rattle.machine.specs.WellFormedLaws.{ranks_small}
use Rattle.brute.specs.LiftingLaws.{Located, lifted_failing, lifted_passing, located}
use Rattle.brute.proofs.WellLaws.{well_in}
use Rattle.brute.proofs.lifting.lift_entry.Goals as goal
use Rattle.brute.proofs.lifting.lift_entry.Goals.{Start}

place : (c : Start) → Located c.args.p.pair.now c.args.e
place c = located c.args.p.pair.now (well_in c.args.p) c.args.e c.requires.0

pub entry_passes-requires : goal.entry_passes-requires
entry_passes-requires c =
    let w = well_in c.args.p in
    let q = place (goal.at.entry_passes-requires c).Start in
    (q.in_section, (omega (arith, q.in_row_lem, w.concrete.states_high), omega (arith, q.in_column, w.abstraction.states_high)))

pub overflow_mul-concrete : goal.overflow_mul-concrete
overflow_mul-concrete c = omega (arith, ranks_small _ (well_in c.args.p))

pub raise-requires : goal.raise-requires
raise-requires c = ranks_small _ (well_in c.args.p)

pub returns-then-not-entry_passes : goal.returns-then-not-entry_passes
returns-then-not-entry_passes c =
    let x = c.args in
    lifted_failing x.p.pair.now x.e x.table.now (sym c.entry_passes.ensures ∙ c.if-not-entry_passes.true) c.raise.ensures

pub returns-else-not-entry_passes : goal.returns-else-not-entry_passes
returns-else-not-entry_passes c =
    let x = c.args in
    lifted_passing x.p.pair.now x.e x.table.now (sym c.entry_passes.ensures ∙ c.if-not-entry_passes.false)
