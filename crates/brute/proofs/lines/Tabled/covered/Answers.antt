use Rattle.std.proofs.Common.{arith, rules, tests}
use Rattle.mask.specs.Logic.{not}
use Rattle.mask.proofs.RangeLaws.{count_range}
use Rattle.machine.specs.WellFormedLaws.{entries_small, pairs_small}
use Rattle.machine.specs.Table.{covered_count}
use Rattle.brute.proofs.WellLaws.{well_of}
use Rattle.brute.proofs.lines.Tabled.covered.Goals as goal

pub overflow_mul-entries : goal.overflow_mul-entries
overflow_mul-entries c = omega (arith, pairs_small _ (well_of c.args.self.now))

pub overflow_mul-entries-2 : goal.overflow_mul-entries-2
overflow_mul-entries-2 c = omega (arith, entries_small _ (well_of c.args.self.now))

pub returns : goal.returns
unfolding covered_count not
returns c = count_range c.count.ensures.ran c.filter.ensures.source c.filter.ensures.closure (search (rules, tests))
