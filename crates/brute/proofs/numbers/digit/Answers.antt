-- The invariant: the digit that is asked for is one of what is left.
use mathlib.Core.Path.{◌∙◌}
use Prim.Native.Nat.{◌+◌, ◌-◌}
use native.Mathlib.Omega.{arith}
use borrow.Author.Rules.{rules}
use Rattle.brute.specs.NumbersLaws.{digit_last, digit_rest}
use Rattle.brute.proofs.numbers.digit.Goals as goal

pub loop-preserved : goal.loop-preserved
loop-preserved c =
    let l = c.loop in
    let x = c.args in
    (search rules, l.invariant.1, rw l.invariant.1 (digit_rest x.top l.rest (x.i - l.counter) (x.i - (l.counter + 1)) (omega arith) ∙ l.invariant.2))

pub returns : goal.returns
returns c =
    let l = c.loop in
    let x = c.args in
    rw l.invariant.1 (digit_last x.top l.rest (x.i - l.counter) (omega arith) ∙ l.invariant.2)
