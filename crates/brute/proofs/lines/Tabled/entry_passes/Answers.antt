-- The cases are those of the definition: blank, not matched, above the greatest rank, 0, and a rank.
use mathlib.Core.Path.{◌∙◌, sym}
use native.Mathlib.Omega.{arith}
use Rattle.machine.specs.LinesLaws.{blank_passes}
use Rattle.machine.specs.WellFormedLaws.{pairs_small, ranks_small}
use Rattle.brute.specs.TargetLaws.{pass_above, pass_goal, pass_rank, pass_unmatched}
use Rattle.brute.proofs.WellLaws.{well_of}
use Rattle.brute.proofs.lines.Tabled.entry_passes.Goals as goal

pub entry_at-e-requires : goal.entry_at-e-requires
entry_at-e-requires c = let w = well_of c.args.self.now in omega (arith, w.abstraction.sets_high)

pub returns-then-e : goal.returns-then-e
returns-then-e c =
    let x = c.args in
    sym (blank_passes x.self.now.pair.now x.self.now.table.now x.j x.c x.a (sym c.entry_at-e.ensures ∙ c.if-e.true))

pub returns-then-not-is_matched : goal.returns-then-not-is_matched
returns-then-not-is_matched c =
    let x = c.args in
    sym (pass_unmatched x.self.now.pair.now x.self.now.table.now x.j x.c x.a (λ e. c.if-e.false (c.entry_at-e.ensures ∙ e)) (sym c.is_matched.ensures ∙ c.if-not-is_matched.true))

pub overflow_mul-concrete : goal.overflow_mul-concrete
overflow_mul-concrete c = omega (arith, pairs_small _ (well_of c.args.self.now))

pub overflow_mul-concrete-2 : goal.overflow_mul-concrete-2
overflow_mul-concrete-2 c = omega (arith, ranks_small _ (well_of c.args.self.now))

pub returns-then-e-concrete : goal.returns-then-e-concrete
returns-then-e-concrete c =
    let x = c.args in
    sym (pass_above x.self.now.pair.now x.self.now.table.now x.j x.c x.a (λ e. c.if-e.false (c.entry_at-e.ensures ∙ e)) (sym c.is_matched.ensures ∙ c.if-not-is_matched.false) (rw (← c.entry_at-e.ensures) c.if-e-concrete.true))

pub returns-then-e-eq0 : goal.returns-then-e-eq0
returns-then-e-eq0 c =
    let x = c.args in
    c.goal_holds.ensures
    ∙ sym (pass_goal x.self.now.pair.now x.self.now.table.now x.j x.c x.a (λ e. c.if-e.false (c.entry_at-e.ensures ∙ e)) (sym c.is_matched.ensures ∙ c.if-not-is_matched.false) (sym c.entry_at-e.ensures ∙ c.if-e-eq0.true))

pub rank_holds-requires : goal.rank_holds-requires
rank_holds-requires c = let w = well_of c.args.self.now in omega (arith, w.abstraction.sets_high, c.requires.0)

pub returns : goal.returns
returns c =
    let x = c.args in
    c.rank_holds.ensures ∙ rw c.entry_at-e.ensures
    (sym (pass_rank x.self.now.pair.now x.self.now.table.now x.j x.c x.a (λ e. c.if-e.false (c.entry_at-e.ensures ∙ e)) (sym c.is_matched.ensures ∙ c.if-not-is_matched.false) (rw (← c.entry_at-e.ensures) c.if-e-concrete.false) (λ e. c.if-e-eq0.false (c.entry_at-e.ensures ∙ e))))
