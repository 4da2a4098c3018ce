use Rattle.std.proofs.Common.{le-ltb, lt-ltb, sym}
use Rattle.mask.specs.LogicLaws.{not_is}
use Rattle.machine.specs.WellFormed.{set_beyond}
use Rattle.brute.proofs.machines.mask_past.Goals as goal

pub returns-then-i-count : goal.returns-then-i-count
unfolding set_beyond
returns-then-i-count c = rw (lt-ltb _ _ c.if-i-count.true, ← c.element_or-mask.ensures) c.has_past.ensures

pub returns-else-i-count : goal.returns-else-i-count
unfolding set_beyond
returns-else-i-count c = rw (le-ltb _ _ c.if-i-count.false, ← c.element_or-mask.ensures) (sym (not_is _))
