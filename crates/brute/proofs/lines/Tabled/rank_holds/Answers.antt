-- The entry's k is asked at c, and tells into which entries the pair has to step.
use mathlib.Core.Path.{◌∙◌, ◌≡◌, sym}
use Rattle.machine.specs.Machines.{in_fair_set, sets_c}
use Rattle.machine.specs.Ranks.{set_of}
use Rattle.brute.specs.TargetLaws.{rank_inside, rank_outside}
use Rattle.brute.proofs.WellLaws.{well_of}
use Rattle.brute.proofs.lines.Tabled.rank_holds.Goals as goal
use Rattle.brute.proofs.lines.Tabled.rank_holds.Goals.{After-in_set}

-- set k, asked at c
asked : (c : After-in_set) → let x = c.args in c.in_set.result ≡ in_fair_set x.self.now.pair.now.concrete (set_of (sets_c x.self.now.pair.now) x.e) x.c
asked c = c.in_set.ensures ∙ rw c.level_of-rank.ensures

pub level_of-rank-requires : goal.level_of-rank-requires
level_of-rank-requires c = let w = well_of c.args.self.now in (w.concrete.sets_low, c.requires.1)

pub returns-then-in_set : goal.returns-then-in_set
returns-then-in_set c =
    let x = c.args in
    c.steps_into.ensures ∙ rw c.level_of-rank.ensures
    (sym (rank_inside x.self.now.pair.now x.self.now.table.now x.j x.c x.a x.e (sym (asked (goal.at.returns-then-in_set c).After-in_set) ∙ c.if-in_set.true)))

pub returns-else-in_set : goal.returns-else-in_set
returns-else-in_set c =
    let x = c.args in
    c.steps_into-else-in_set.ensures ∙ sym (rank_outside x.self.now.pair.now x.self.now.table.now x.j x.c x.a x.e (sym (asked (goal.at.returns-else-in_set c).After-in_set) ∙ c.if-in_set.false))
