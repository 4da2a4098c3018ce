use Rattle.std.proofs.Common.{rules, tests}
use Rattle.std.proofs.lemmas.Iterator.{serves_from_Range}
use Rattle.mask.specs.Logic.{not, or}
use Rattle.mask.specs.Bounded.{every_in}
use Rattle.mask.proofs.RangeLaws.{all_range}
use Rattle.machine.specs.Machines.{moves}
use Rattle.machine.specs.Step.{steps}
use Rattle.brute.proofs.WellLaws.{well_of}
use Rattle.brute.proofs.lines.Tabled.steps_into.Goals as goal

pub all-requires-clause-callable : goal.all-requires-clause-callable
all-requires-clause-callable c =
    let w = well_of c.args.self.now in
    serves_from_Range (λ x q h. search rules) (λ x a b. search (rules, c.requires, w.concrete.states_high))

pub returns : goal.returns
unfolding steps every_in moves or not
returns c = all_range c.all.ensures.ran (search (rules, tests))
