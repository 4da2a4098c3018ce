use Rattle.std.proofs.Common.{rules, tests}
use Rattle.std.proofs.iter.Serving.{serving}
use Rattle.std.specs.Prelude.{ℕ, ◌≤◌}
use Rattle.brute.specs.Numbers.{digit_of, states_of}
use Rattle.brute.specs.NumbersLaws.{digit_le}
use Rattle.brute.proofs.EachLaws.{each_table}
use Rattle.brute.proofs.numbers.put_states.Goals as goal

pub put_each-requires : goal.put_each-requires
put_each-requires c =
    let small : (i : ℕ) → digit_of c.args.top c.args.x i ≤ c.args.top = digit_le c.args.top c.args.x in
    grind (serving, small)

pub returns : goal.returns
unfolding states_of
returns c = each_table _ c.put_each.ensures (search (rules, tests))
