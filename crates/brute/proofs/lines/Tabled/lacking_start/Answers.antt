use Rattle.std.proofs.Common.{rules, tests}
use Rattle.std.proofs.lemmas.Iterator.{serves_from_Range}
use Rattle.mask.specs.Logic.{and, not}
use Rattle.mask.proofs.RangeLaws.{find_range}
use Rattle.machine.specs.Verdict.{lacking_start}
use Rattle.brute.proofs.WellLaws.{well_of}
use Rattle.brute.proofs.lines.Tabled.lacking_start.Goals as goal

pub find-requires-clause-callable : goal.find-requires-clause-callable
find-requires-clause-callable c =
    let w = well_of c.args.self.now in
    serves_from_Range (λ x q h. search rules) (λ x a b. search (rules, w.concrete.states_high))

pub returns : goal.returns
unfolding lacking_start and not
returns c = find_range _ c.find.ensures.ran (search (rules, tests))
