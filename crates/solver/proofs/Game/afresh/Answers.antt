-- The first entries bound the ranks over any goals, and cover the matched pairs.
use Rattle.machine.specs.WellFormedLaws.{well_pair}
use Rattle.solver.specs.SweepLaws.{first_bounded, first_covered}
use Rattle.solver.proofs.Game.afresh.Goals as goal
use Rattle.solver.proofs.Game.afresh.Goals.{Start}

pub section-requires : goal.section-requires
section-requires c =
    let e = c.first_entries.ensures in
    let m = c.args.self.now.prepared.matched_are in
    (c.requires.0, (first_bounded c.args.self.now.pair (well_pair c.args.self.now.pair c.args.self.now.prepared.well) m e _ c.requires.0.only_matched, first_covered c.args.self.now.pair (well_pair c.args.self.now.pair c.args.self.now.prepared.well) m e))
