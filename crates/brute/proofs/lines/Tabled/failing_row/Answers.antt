use Rattle.std.proofs.Common.{ap, rules, tests, ◌∙◌}
use Rattle.std.proofs.lemmas.Iterator.{serves_from_Range}
use Rattle.std.specs.Prelude.{is_some, ◌≡◌}
use Rattle.mask.specs.Logic.{not}
use Rattle.mask.specs.Bounded.{below, first}
use Rattle.mask.proofs.RangeLaws.{find_range}
use Rattle.machine.specs.Machines.{n_a, n_c}
use Rattle.machine.specs.Lines.{passes}
use Rattle.brute.specs.TargetLaws.{some_failing}
use Rattle.mask.specs.BoundedLaws.{first_cong}
use Rattle.brute.proofs.WellLaws.{well_of}
use Rattle.brute.proofs.lines.Tabled.failing_row.Goals as goal

pub find-requires-clause-callable : goal.find-requires-clause-callable
find-requires-clause-callable c =
    let w = well_of c.args.self.now in
    serves_from_Range (λ x q h. search rules) (λ x a b. search (rules, c.requires, w.concrete.states_high))

pub returns : goal.returns
returns c =
    let p = c.args.self.now.pair.now in
    let e : c.find.result ≡ below (n_c p) (first (n_c p) (λ i. is_some (below (n_a p) (first (n_a p) (λ a. not (passes p c.args.self.now.table.now c.args.j i a)))))) =
    find_range _ c.find.ensures.ran (search (rules, tests)) in
    e ∙ ap (below (n_c p)) (first_cong (n_c p) _ _ (λ i l. some_failing (n_a p) (passes p c.args.self.now.table.now c.args.j i)))
