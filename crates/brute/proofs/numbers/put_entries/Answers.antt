use Rattle.std.proofs.Common.{arith, rules, tests}
use Rattle.std.proofs.iter.Serving.{serving}
use Rattle.std.specs.Prelude.{ℕ, ◌≤◌}
use Rattle.mask.specs.FrontLaws.{front_over}
use Rattle.brute.specs.Numbers.{digit_of, entry_of, numbered_table}
use Rattle.brute.specs.NumbersLaws.{digit_le}
use Rattle.brute.proofs.EachLaws.{each_front}
use Rattle.brute.proofs.numbers.put_entries.Goals as goal

pub put_each-requires : goal.put_each-requires
put_each-requires c =
    let small : (i : ℕ) → digit_of c.args.top c.args.x i ≤ c.args.top = digit_le c.args.top c.args.x in
    grind (serving, small)

pub returns : goal.returns
unfolding numbered_table
returns c =
    let x = c.args in
    let digits : ℕ → ℕ = λ e. entry_of (digit_of x.top x.x e) in
    front_over digits x.table.now (each_front digits x.table.now c.min-end.result (omega arith) c.put_each.ensures (search (rules, tests))) x.n c.min-end.ensures
