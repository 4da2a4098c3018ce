-- The counts are tested first.
use mathlib.Core.Bool.{true, false}
use mathlib.Core.Path.{◌≡◌, refl, sym, ◌∙◌}
use Rattle.machine.specs.WellFormed.{counts_ok, machine_validity}
use Rattle.validity.proofs.machine_validity.Goals as goal

pub returns-then-not-counts_ok : goal.returns-then-not-counts_ok
unfolding machine_validity
returns-then-not-counts_ok c =
    let x = c.args in
    let e : counts_ok x.limit x.m.states x.m.sets ≡ false = sym c.counts_ok.ensures ∙ c.if-not-counts_ok.true in
    rw e refl

pub returns : goal.returns
unfolding machine_validity
returns c =
    let x = c.args in
    let e : counts_ok x.limit x.m.states x.m.sets ≡ true = sym c.counts_ok.ensures ∙ c.if-not-counts_ok.false in
    rw e c.content_validity.ensures
