use Rattle.std.proofs.Common.{arith, rules, tests}
use Rattle.std.specs.Prelude.{min, ◌≡◌}
use Rattle.brute.specs.NumbersLaws.{machine_is}
use Rattle.mask.proofs.MadeLaws.{made_table}
use Rattle.std.proofs.iter.Serving.{serving}
use Rattle.brute.proofs.numbers.numbered_machine.Goals as goal

pub from_fn-requires-3 : goal.from_fn-requires-3
from_fn-requires-3 c = (omega arith, let h = c.min.ensures in grind (serving, h))

pub returns : goal.returns
returns c =
    let x = c.args in
    let n_is : c.min.result ≡ min x.shape.states 64 = c.min.ensures in
    machine_is x.shape x.x c.min.result _ _ _ _ n_is c.digit.ensures
    (made_table c.from_fn.ensures.items (search (rules, tests)))
    (made_table c.from_fn-2.ensures.items (search (rules, tests)))
    (made_table c.from_fn-3.ensures.items (search (rules, tests)))
