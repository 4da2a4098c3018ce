-- Each case has its number.
use mathlib.Core.Bool.{Bool, true, false}
use mathlib.Core.Path.{◌≡◌, sym, ap, ◌∙◌}
use Rattle.std.specs.Prelude.{Ok}
use Rattle.watch.specs.Watching.{told_number}
use Rattle.watch.specs.WatchingLaws.{told_some, told_nothing}
use Rattle.watch.proofs.number_told.Goals as goal

pub returns-in-Some-true : goal.returns-in-Some-true
unfolding told_number
returns-in-Some-true c =
    let n = c.in-Some-true in
    let yes : told_number (Ok true) ≡ told_number (Ok n.field-0) = ap (λ (b : Bool). told_number (Ok b)) (sym n.field-0-test) in
    record { number = yes ∙ told_some c.args.said n.field-0 (sym c.told.ensures.value ∙ n.is); numbers = c.told.ensures.numbers }

pub returns-in-Some-false-clause-number : goal.returns-in-Some-false-clause-number
unfolding told_number
returns-in-Some-false-clause-number c =
    let n = c.in-Some-false in
    let no : told_number (Ok false) ≡ told_number (Ok n.field-0) = ap (λ (b : Bool). told_number (Ok b)) (sym n.field-0-test) in
    no ∙ told_some c.args.said n.field-0 (sym c.told.ensures.value ∙ n.is)

pub returns-in-None-clause-number : goal.returns-in-None-clause-number
returns-in-None-clause-number c = told_nothing c.args.said (sym c.told.ensures.value ∙ c.in-None.is)
