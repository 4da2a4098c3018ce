-- The counts of well-formed machines are small.
use native.Mathlib.Omega.{arith}
use Rattle.machine.specs.WellFormedLaws.{well_pair, pairs_small, entries_small}
use Rattle.progress.proofs.entries_of.Goals as goal

pub overflow_mul-result : goal.overflow_mul-result
overflow_mul-result c = omega (arith, pairs_small c.args.formed.now.pair.now (well_pair c.args.formed.now.pair.now c.args.formed.now.well))

pub overflow_mul-result-2 : goal.overflow_mul-result-2
overflow_mul-result-2 c = omega (arith, entries_small c.args.formed.now.pair.now (well_pair c.args.formed.now.pair.now c.args.formed.now.well))
