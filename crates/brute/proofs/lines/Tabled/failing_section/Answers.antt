use Rattle.std.proofs.Common.{ap, rules, tests, ◌∙◌}
use Rattle.std.specs.Prelude.{is_some, ◌≡◌}
use Rattle.mask.specs.Logic.{not}
use Rattle.mask.specs.Bounded.{below, every, first}
use Rattle.mask.proofs.RangeLaws.{find_range}
use Rattle.machine.specs.Machines.{n_a, n_c, sets_a}
use Rattle.machine.specs.Lines.{passes}
use Rattle.brute.specs.TargetLaws.{some_failing}
use Rattle.mask.specs.BoundedLaws.{first_cong}
use Rattle.brute.proofs.lines.Tabled.failing_section.Goals as goal

pub returns : goal.returns
returns c =
    let p = c.args.self.now.pair.now in
    let e : c.find.result ≡ below (sets_a p) (first (sets_a p) (λ j. is_some (below (n_c p) (first (n_c p) (λ i. not (every (n_a p) (passes p c.args.self.now.table.now j i))))))) =
    find_range _ c.find.ensures.ran (search (rules, tests)) in
    e ∙ ap (below (sets_a p)) (first_cong (sets_a p) _ _ (λ j l. some_failing (n_c p) (λ i. every (n_a p) (passes p c.args.self.now.table.now j i))))
