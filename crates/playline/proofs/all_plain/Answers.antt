use Rattle.std.proofs.Common.{refl, rules, tests}
use Rattle.mask.proofs.RangeLaws.{all_slice}
use Rattle.playline.proofs.all_plain.Goals as goal

pub returns : goal.returns
returns c = all_slice c.all.ensures.ran c.iter.ensures.rest refl (search (rules, tests))
