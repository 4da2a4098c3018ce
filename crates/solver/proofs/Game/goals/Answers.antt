-- The section's set is the one that is named, and the goals are the definition's.
use mathlib.Core.Path.{ap, ◌∙◌}
use Prim.Native.Nat.{◌<◌}
use native.Mathlib.Omega.{arith}
use Rattle.machine.specs.Machines.{fair_set}
use Rattle.machine.specs.WellFormedLaws.{well_pair}
use Rattle.rows.specs.Rows.{goal_rows}
use Rattle.solver.proofs.Game.goals.Goals as goal
use Rattle.solver.proofs.Game.goals.Goals.{After-step_rows-steps}

few : (c : After-step_rows-steps) → c.args.j < 7
few c = omega (arith, c.requires, (well_pair c.args.self.now.pair c.args.self.now.prepared.well).abstraction.sets_high)

pub offset_bounds-self-j : goal.offset_bounds-self-j
offset_bounds-self-j c = omega (arith, few (goal.at.offset_bounds-self-j c).After-step_rows-steps)

pub bounds-self-j : goal.bounds-self-j
bounds-self-j c = omega (arith, few (goal.at.bounds-self-j c).After-step_rows-steps)

pub returns : goal.returns
unfolding fair_set
returns c =
    let x = c.args in
    c.goal_rows.ensures ∙ ap (goal_rows x.self.now.matched (fair_set x.self.now.pair.abstraction x.j)) c.step_rows-steps.ensures
