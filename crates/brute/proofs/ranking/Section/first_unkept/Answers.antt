use Rattle.std.proofs.Common.{arith, rules, tests}
use Rattle.std.specs.Prelude.{◌*◌, ◌≤◌}
use Rattle.mask.specs.Logic.{and, not}
use Rattle.mask.proofs.RangeLaws.{find_range}
use Rattle.machine.specs.Machines.{sets_c}
use Rattle.machine.specs.WellFormedLaws.{ranks_small}
use Rattle.brute.specs.Ranking.{unkept}
use Rattle.std.proofs.Common.{div-mul-le_self, ◌/◌}
use Rattle.brute.proofs.WellLaws.{well_of}
use Rattle.brute.proofs.ranking.Section.first_unkept.Goals as goal
use Rattle.brute.proofs.ranking.Section.first_unkept.Goals.{Start}

low_small : (c : Start) → let x = c.args in x.i / sets_c x.self.now.lifted.pair.now * sets_c x.self.now.lifted.pair.now ≤ 32768
low_small c = let x = c.args in omega (arith, div-mul-le_self x.i (sets_c x.self.now.lifted.pair.now), ranks_small x.self.now.lifted.pair.now (well_of x.self.now.lifted), c.requires)

pub overflow_cast-low : goal.overflow_cast-low
overflow_cast-low c = omega (arith, low_small (goal.at.overflow_cast-low c).Start)

pub returns : goal.returns
unfolding unkept and not
returns c = rw (← c.pairs.ensures) (find_range _ c.find.ensures.ran (search (rules, tests)))
