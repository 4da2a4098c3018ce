use Rattle.std.proofs.Common.{le-ltb, rules, sym, tests, ◌∙◌}
use Rattle.mask.specs.Logic.{and}
use Rattle.mask.specs.Bounded.{some_in}
use Rattle.mask.proofs.RangeLaws.{any_range}
use Rattle.machine.specs.WellFormed.{beyond}
use Rattle.brute.specs.MachineLaws.{full_not_beyond}
use Rattle.brute.proofs.machines.has_past.Goals as goal

pub returns-then-m-full : goal.returns-then-m-full
unfolding beyond some_in and
returns-then-m-full c = any_range c.any.ensures.ran (search (rules, tests))

pub returns-else-m-full : goal.returns-else-m-full
returns-else-m-full c = le-ltb _ _ c.if-m-full.false ∙ sym (full_not_beyond _ _ (rw (← c.full.ensures) c.if-m-full.false))
