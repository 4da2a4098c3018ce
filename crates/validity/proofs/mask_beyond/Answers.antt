use borrow.Author.Tests.{le-ltb}
use Rattle.std.proofs.Common.{sym}
use Rattle.mask.specs.LogicLaws.{not_is}
use Rattle.validity.proofs.mask_beyond.Goals as goal

pub returns-else-i-count : goal.returns-else-i-count
returns-else-i-count c = simp (le-ltb _ _ c.if-i-count.false) (sym (not_is _))
