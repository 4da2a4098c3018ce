use Rattle.std.proofs.Common.{refl, sym, ap, ◌∙◌, rules, tests}
use Rattle.std.proofs.Math.Bool as B
use Rattle.mask.specs.LogicLaws.{not_is}
use Rattle.mask.proofs.RangeLaws.{any_slice}
use Rattle.player.specs.Given.{none_in}
use Rattle.player.proofs.Lasso.misses.Goals as goal

pub returns : goal.returns
unfolding none_in
returns c = ap B.not (any_slice c.any.ensures.ran c.iter.ensures.rest refl (search (rules, tests))) ∙ sym (not_is _)
