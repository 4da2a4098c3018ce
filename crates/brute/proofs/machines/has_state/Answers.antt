use Rattle.std.proofs.Common.{arith, rules, tests, ◌∙◌}
use Rattle.std.specs.Prelude.{◌≡◌}
use Rattle.mask.specs.Bits.{has_bit}
use Rattle.mask.specs.Bounded.{some}
use Rattle.mask.proofs.RangeLaws.{any_range}
use Rattle.brute.specs.MachineLaws.{some_member}
use Rattle.brute.proofs.machines.has_state.Goals as goal

pub returns : goal.returns
returns c =
    let e : c.any.result ≡ some 64 (has_bit c.args.members) = any_range c.any.ensures.ran (search (rules, tests)) in
    e ∙ some_member _ (omega arith)
