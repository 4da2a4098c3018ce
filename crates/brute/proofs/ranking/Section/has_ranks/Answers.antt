use Rattle.std.proofs.Common.{rules, tests}
use Rattle.std.proofs.lemmas.Iterator.{serves_from_Range}
use Rattle.mask.proofs.RangeLaws.{all_range}
use Rattle.machine.specs.WellFormedLaws.{pairs_small}
use Rattle.machine.specs.Table.{blank}
use Rattle.brute.specs.Ranking.{section_ranked}
use Rattle.std.proofs.Math.ListN.{length-replicate}
use Rattle.machine.specs.WellFormedLaws.{section_fits}
use Rattle.brute.specs.Ranking.{pair_room}
use Rattle.brute.proofs.WellLaws.{well_of}
use Rattle.brute.proofs.ranking.Section.has_ranks.Goals as goal

pub rank_pairs-requires : goal.rank_pairs-requires
rank_pairs-requires c =
    rw (length-replicate pair_room blank) (pairs_small _ (well_of c.args.self.now.lifted))

pub all-requires-clause-callable : goal.all-requires-clause-callable
all-requires-clause-callable c =
    let x = c.args in
    let w = well_of x.self.now.lifted in
    serves_from_Range (λ x q h. search rules) (λ x a b. search (rules, section_fits c.args.self.now.lifted.pair.now w c.args.self.now.j c.args.self.now.in_range))

pub returns : goal.returns
unfolding section_ranked
returns c =
    rw (← c.rank_pairs.ensures, ← c.pairs-pairs.ensures) (all_range c.all.ensures.ran (search (rules, tests)))
