-- The sweeps begin with entries that no rank is below, and what stands past the entries stays.
use Rattle.std.proofs.Common.{List, ◌++◌, refl, ap, ◌∙◌, ℕ}
use Rattle.machine.specs.Machines.{n_a, sets_a, pairs}
use Rattle.machine.specs.Observed.{matched_masks}
use Rattle.machine.specs.Ranks.{solver_table}
use Rattle.machine.specs.WellFormedLaws.{well_pair}
use Rattle.solver.specs.Sweeps.{Begun}
use Rattle.solver.specs.SweepLaws.{sweeping_start, begun_rest}
use Rattle.solver.proofs.Game.rank_all.Goals as goal
use Rattle.solver.proofs.Game.rank_all.Goals.{After-first_table}

begun : (c : After-first_table) →
    let p = c.args.self.now.pair in
    Begun (pairs p) (n_a p) (matched_masks p) c.args.table.now (sets_a p) c.first_table.new.table
begun c = rw (← c.args.self.now.prepared.matched_are) c.first_table.ensures

pub sweeps-requires : goal.sweeps-requires
sweeps-requires c =
    let s = c.args.self.now in
    sweeping_start s.pair (well_pair s.pair s.prepared.well) c.requires (begun (goal.at.sweeps-requires c).After-first_table) refl

pub returns : goal.returns
returns c =
    let s = c.args.self.now in
    c.sweeps.ensures ∙ ap (λ (l : List ℕ). solver_table s.pair ++ l) (begun_rest s.pair (well_pair s.pair s.prepared.well) c.requires (begun (goal.at.returns c).After-first_table))
