-- Each section has the matched pairs.
use Rattle.std.proofs.Common.{rules, tests}
use Rattle.machine.specs.WellFormedLaws.{well_pair}
use Rattle.mask.proofs.MadeLaws.{made_table}
use Rattle.progress.specs.TurnsLaws.{first_made}
use Rattle.progress.proofs.first_rows.Goals as goal

pub returns : goal.returns
returns c = first_made _ c.matched_masks-matched.ensures (well_pair _ c.args.formed.now.well) (made_table c.from_fn.ensures.items (search (rules, tests)))
