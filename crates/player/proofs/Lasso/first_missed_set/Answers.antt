use Rattle.std.proofs.Common.{◌≤◌, rules, tests}
use Rattle.std.proofs.iter.Serving.{serving}
use Rattle.mask.proofs.RangeLaws.{find_range}
use Rattle.machine.specs.Machines.{fair_set, in_fair_set}
use Rattle.machine.specs.WellFormedLaws.{well_pair}
use Rattle.machine.specs.Player.{missed_set}
use Rattle.player.specs.Given.{none_in}
use Rattle.player.proofs.Lasso.first_missed_set.Goals as goal

pub find-requires-clause-callable : goal.find-requires-clause-callable
find-requires-clause-callable c =
    let p = c.args.formed.now.pair.now in
    let few : p.concrete.sets ≤ 8 = (well_pair p c.args.formed.now.well).concrete.sets_high in
    grind (serving, few)

pub returns : goal.returns
unfolding none_in missed_set in_fair_set fair_set
returns c = find_range _ c.find.ensures.ran (search (rules, tests))
