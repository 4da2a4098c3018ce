-- One case for each kind of target; an entry of 0 is told before its l is asked for.
use Rattle.std.proofs.Common.{arith, sym}
use Rattle.std.proofs.Math.Path.{refl}
use Rattle.std.proofs.lemmas.Grind.{common_steps}
use Rattle.mask.specs.Logic.{or}
use Rattle.mask.specs.LogicLaws.{not_is}
use Rattle.brute.specs.Lines.{hit}
use Rattle.brute.proofs.lines.hits.Goals as goal

pub returns-in-NonBlank : goal.returns-in-NonBlank
unfolding hit
returns-in-NonBlank c = rw c.in-NonBlank.is (sym (not_is _))

pub returns-then-e-eq0 : goal.returns-then-e-eq0
unfolding hit or
returns-then-e-eq0 c = rw c.in-Lower.is (grind (arith, common_steps))

pub returns-else-e-eq0 : goal.returns-else-e-eq0
unfolding hit or
returns-else-e-eq0 c = rw c.in-Lower.is (grind (arith, common_steps))

pub returns-in-AtMost : goal.returns-in-AtMost
unfolding hit
returns-in-AtMost c = rw c.in-AtMost.is refl
