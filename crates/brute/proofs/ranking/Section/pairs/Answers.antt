use Rattle.std.proofs.Common.{arith}
use Rattle.machine.specs.WellFormedLaws.{pairs_small}
use Rattle.brute.proofs.WellLaws.{well_of}
use Rattle.brute.proofs.ranking.Section.pairs.Goals as goal

pub overflow_mul-result : goal.overflow_mul-result
overflow_mul-result c = omega (arith, pairs_small _ (well_of c.args.self.now.lifted))
