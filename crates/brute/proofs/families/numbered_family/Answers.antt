use Rattle.std.proofs.Common.{rules, tests}
use Rattle.brute.specs.Families.{numbered_family}
use Rattle.mask.proofs.MadeLaws.{made_table}
use Rattle.brute.proofs.families.numbered_family.Goals as goal

pub returns : goal.returns
unfolding numbered_family
returns c = made_table c.from_fn.ensures.items (search (rules, tests))
