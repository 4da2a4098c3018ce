-- Set j is asked at a, and then the step goes into the next section.
use Rattle.std.proofs.Common.{arith, sym, ◌∙◌}
use Rattle.machine.specs.Machines.{sets_a}
use Rattle.machine.specs.StepLaws.{next_lt}
use Rattle.brute.specs.TargetLaws.{goal_is, goal_not}
use Rattle.brute.proofs.WellLaws.{well_of}
use Rattle.brute.proofs.lines.Tabled.goal_holds.Goals as goal

pub steps_into-requires : goal.steps_into-requires
steps_into-requires c =
    let w = well_of c.args.self.now in
    let x = c.args in
    omega (arith, w.abstraction.sets_high, c.next_section-next.ensures, next_lt (sets_a x.self.now.pair.now) x.j c.requires)

pub returns-then-in_set : goal.returns-then-in_set
returns-then-in_set c =
    let x = c.args in
    c.steps_into.ensures ∙ rw c.next_section-next.ensures (sym (goal_is x.self.now.pair.now x.self.now.table.now x.j x.c x.a (sym c.in_set.ensures ∙ c.if-in_set.true)))

pub returns-else-in_set : goal.returns-else-in_set
returns-else-in_set c =
    let x = c.args in
    c.if-in_set.false ∙ sym (goal_not x.self.now.pair.now x.self.now.table.now x.j x.c x.a (sym c.in_set.ensures ∙ c.if-in_set.false))
