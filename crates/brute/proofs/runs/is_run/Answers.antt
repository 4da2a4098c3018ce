-- A run is asked of well-formed machines only.
use Rattle.std.proofs.Common.{rules, sym, tests, ◌∙◌}
use Rattle.std.proofs.Math.Path.{refl}
use Rattle.std.specs.Prelude.{eqb, get_or, true, ◌≡◌}
use Rattle.mask.specs.LogicLaws.{and_false_l, and_true_l}
use Rattle.mask.specs.Bounded.{every}
use Rattle.mask.proofs.RangeLaws.{all_range}
use Rattle.machine.specs.WellFormed.{is_valid, well_formed}
use Rattle.machine.specs.WellFormedLaws.{valid_is_well}
use Rattle.brute.specs.Given.{lent}
use Rattle.machine.specs.Player.{place_at}
use Rattle.brute.specs.MachineLaws.{none_refused, some_refused}
use Rattle.brute.proofs.runs.is_run.Goals as goal
use Rattle.brute.proofs.runs.is_run.Goals.{Else-is_err}

well : (c : Else-is_err) → well_formed c.args.p ≡ true
well c = valid_is_well _ (sym c.validity.ensures ∙ none_refused _ (sym c.is_err.ensures.value ∙ c.if-is_err.false))

pub returns-then-is_err : goal.returns-then-is_err
unfolding well_formed is_valid
returns-then-is_err c =
    let r = some_refused _ (sym c.is_err.ensures.value ∙ c.if-is_err.true) in
    rw (sym c.validity.ensures ∙ r.1) (sym (and_false_l _ refl))

pub invariant_of-tabled : goal.invariant_of-tabled
invariant_of-tabled c = record { well = well (goal.at.invariant_of-tabled c).Else-is_err }

pub returns : goal.returns
returns c =
    let x = c.args in
    let e : c.all.result ≡ every x.n (λ t. eqb (get_or x.run.now t 0) (place_at x.p x.table.now (lent x.lasso) t).state) = all_range c.all.ensures.ran (search (rules, tests)) in
    e ∙ sym (and_true_l _ (well (goal.at.returns c).Else-is_err))
