-- The entry's number tells its section, c and a, which are within the counts.
use Rattle.std.proofs.Common.{arith}
use Rattle.std.proofs.lemmas.Grind.{common_steps}
use Rattle.mask.specs.Logic.{and}
use Rattle.machine.specs.WellFormedLaws.{pairs_small}
use Rattle.brute.specs.Families.{family_entry}
use Rattle.brute.specs.LiftingLaws.{Located, located}
use Rattle.brute.proofs.WellLaws.{well_in}
use Rattle.brute.proofs.families.family_entry.Goals as goal
use Rattle.brute.proofs.families.family_entry.Goals.{Start}

place : (c : Start) → Located c.args.p.pair.now c.args.e
place c = located c.args.p.pair.now (well_in c.args.p) c.args.e c.requires

pub overflow_mul-pairs : goal.overflow_mul-pairs
overflow_mul-pairs c = omega (arith, pairs_small _ (well_in c.args.p))

pub overflow_mul-j : goal.overflow_mul-j
overflow_mul-j c = let q = place (goal.at.overflow_mul-j c).Start in omega (arith, q.in_section, (well_in c.args.p).abstraction.sets_high)

pub overflow_add-j : goal.overflow_add-j
overflow_add-j c = let q = place (goal.at.overflow_add-j c).Start in omega (arith, q.in_section, q.in_row_lem, (well_in c.args.p).abstraction.sets_high, (well_in c.args.p).concrete.states_high)

pub offset_bounds-family-j : goal.offset_bounds-family-j
offset_bounds-family-j c = let q = place (goal.at.offset_bounds-family-j c).Start in omega (arith, q.in_section, q.in_row_lem, (well_in c.args.p).abstraction.sets_high, (well_in c.args.p).concrete.states_high)

pub bounds-family-j : goal.bounds-family-j
bounds-family-j c = let q = place (goal.at.bounds-family-j c).Start in omega (arith, q.in_section, q.in_row_lem, (well_in c.args.p).abstraction.sets_high, (well_in c.args.p).concrete.states_high)

pub returns-then-has : goal.returns-then-has
unfolding family_entry and
returns-then-has c = grind (arith, common_steps)

pub returns-else-is_matched : goal.returns-else-is_matched
unfolding family_entry and
returns-else-is_matched c = grind (arith, common_steps)
