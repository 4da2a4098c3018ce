use Rattle.std.proofs.Common.{eq-eqb, rules, sym, tests, ◌∙◌}
use Rattle.mask.specs.Logic.{not, or}
use Rattle.mask.specs.BoundedLaws.{every_of}
use Rattle.mask.proofs.RangeLaws.{all_range}
use Rattle.mask.specs.BitsLaws.{has_none}
use Rattle.brute.specs.FamiliesLaws.{bit_none}
use Rattle.brute.proofs.families.row_holds.Goals as goal

pub returns-then-row-eq0 : goal.returns-then-row-eq0
returns-then-row-eq0 c =
    let x = c.args in
    eq-eqb _ 0 c.if-row-eq0.true ∙ sym (every_of 64 _ (λ q h. bit_none x.p.now x.j x.c q x.row (rw c.if-row-eq0.true (has_none q))))

pub returns-else-row-eq0 : goal.returns-else-row-eq0
unfolding or not
returns-else-row-eq0 c = all_range c.all.ensures.ran (search (rules, tests))
