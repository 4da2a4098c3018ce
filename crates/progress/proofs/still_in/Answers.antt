-- A pair that is not matched is struck out whatever its bit.
use Rattle.std.proofs.Common.{◌+◌, ◌*◌, ◌<◌, ◌∙◌, arith}
use Rattle.machine.specs.WellFormedLaws.{WellPair, well_pair}
use Rattle.progress.specs.TurnsLaws.{unmatched_out, matched_bit}
use Rattle.progress.proofs.still_in.Goals as goal
use Rattle.progress.proofs.still_in.Goals.{Start}

well : (c : Start) → WellPair c.args.formed.now.pair.now
well c = well_pair c.args.formed.now.pair.now c.args.formed.now.well

-- the row lies within the family
fits : (c : Start) → c.args.j * 64 + c.args.c < 448
fits c = omega (arith, c.requires.0, c.requires.1.0, (well c).concrete.states_high, (well c).abstraction.sets_high)

pub bounds-p-c : goal.bounds-p-c
bounds-p-c c = omega (arith, c.requires.1.0, (well (goal.at.bounds-p-c c).Start).concrete.states_high)

pub bounds-p-a : goal.bounds-p-a
bounds-p-a c = omega (arith, c.requires.1.1, (well (goal.at.bounds-p-a c).Start).abstraction.states_high)

pub overflow_mul-j : goal.overflow_mul-j
overflow_mul-j c = omega (arith, fits (goal.at.overflow_mul-j c).Start)

pub overflow_add-j : goal.overflow_add-j
overflow_add-j c = omega (arith, fits (goal.at.overflow_add-j c).Start)

pub offset_bounds-family-j : goal.offset_bounds-family-j
offset_bounds-family-j c = omega (arith, fits (goal.at.offset_bounds-family-j c).Start)

pub bounds-family-j : goal.bounds-family-j
bounds-family-j c = omega (arith, fits (goal.at.bounds-family-j c).Start)

pub returns-then-same_observation : goal.returns-then-same_observation
returns-then-same_observation c =
    let x = c.args in
    c.has.ensures
    ∙ matched_bit x.formed.now.pair.now (well (goal.at.returns-then-same_observation c).Start) x.family.now x.j x.c x.a c.requires.0 c.requires.1.0 c.requires.1.1 c.same_observation.ensures c.if-same_observation.true

pub returns-else-same_observation : goal.returns-else-same_observation
returns-else-same_observation c =
    let x = c.args in
    c.if-same_observation.false
    ∙ unmatched_out x.formed.now.pair.now (well (goal.at.returns-else-same_observation c).Start) x.family.now x.j x.c x.a c.requires.0 c.requires.1.0 c.requires.1.1 c.same_observation.ensures c.if-same_observation.false
