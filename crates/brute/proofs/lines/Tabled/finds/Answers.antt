use Rattle.std.proofs.Common.{rules, tests}
use Rattle.std.proofs.lemmas.Iterator.{serves_from_Range}
use Rattle.mask.specs.Logic.{and}
use Rattle.mask.specs.Bounded.{some_in}
use Rattle.mask.proofs.RangeLaws.{any_range}
use Rattle.machine.specs.Machines.{moves}
use Rattle.brute.specs.Lines.{in_target}
use Rattle.brute.proofs.WellLaws.{well_of}
use Rattle.brute.proofs.lines.Tabled.finds.Goals as goal

pub any-requires-clause-callable : goal.any-requires-clause-callable
any-requires-clause-callable c =
    let w = well_of c.args.self.now in
    serves_from_Range (λ x q h. search rules) (λ x a b. search (rules, c.requires, w.abstraction.states_high, w.concrete.sets_low))

pub returns : goal.returns
unfolding some_in in_target moves and
returns c = any_range c.any.ensures.ran (search (rules, tests))
