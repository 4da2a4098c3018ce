-- The goals are the section's over the family, by what its rows hold of the next section.
use mathlib.Core.List.{List}
use mathlib.Core.Path.{◌≡◌, ap, ◌∙◌}
use Prim.Native.Nat.{ℕ}
use native.Mathlib.Omega.{arith}
use Rattle.machine.specs.Machines.{sets_a}
use Rattle.machine.specs.StepLaws.{next_lt}
use Rattle.machine.specs.WellFormedLaws.{well_pair}
use Rattle.machine.specs.Game.{goals, levels}
use Rattle.rows.specs.Rows.{rows_of}
use Rattle.solver.specs.Families.{family_in, put_section}
use Rattle.solver.specs.FamilyRowsLaws.{goals_done, goals_hold, goals_back}
use Rattle.solver.proofs.Game.turn_section.Goals as goal
use Rattle.solver.proofs.Game.turn_section.Goals.{After-goals-g, Start}

goals_are : (c : After-goals-g) → let x = c.args in c.goals-g.result ≡ rows_of (goals x.self.now.pair (family_in x.self.now.pair x.family.now) x.j)
goals_are c =
    goals_done c.args.self.now.pair (well_pair c.args.self.now.pair c.args.self.now.prepared.well) c.args.family.now c.args.j c.requires.0 c.args.self.now.prepared.matched_are c.args.self.now.prepared.predecessors_are
    c.next_section.ensures c.section_rows-rows.ensures c.join_rows-next.ensures c.goals-g.ensures

pub section_rows-rows-requires : goal.section_rows-rows-requires
section_rows-rows-requires c =
    omega (arith, c.next_section.ensures, next_lt (sets_a c.args.self.now.pair) c.args.j c.requires.0, (well_pair c.args.self.now.pair c.args.self.now.prepared.well).abstraction.sets_high)

pub afresh-set-requires : goal.afresh-set-requires
afresh-set-requires c =
    (goals_hold c.args.self.now.pair (well_pair c.args.self.now.pair c.args.self.now.prepared.well) c.args.family.now c.args.j (goals_are (goal.at.afresh-set-requires c).After-goals-g), c.requires.1)

pub put_section-requires : goal.put_section-requires
put_section-requires c = omega (arith, c.requires.0, (well_pair c.args.self.now.pair c.args.self.now.prepared.well).abstraction.sets_high)

pub returns : goal.returns
returns c =
    let x = c.args in
    let made = c.afresh-set in
    let back = goals_back x.self.now.pair (well_pair c.args.self.now.pair c.args.self.now.prepared.well) x.family.now x.j (goals_are (goal.at.returns c).After-goals-g) in
    (c.put_section.ensures ∙ ap (put_section x.made.now x.j) (made.ensures.0 ∙ ap (λ (G : List ℕ). rows_of (levels x.self.now.pair G)) back), rw back at made.ensures.1)
