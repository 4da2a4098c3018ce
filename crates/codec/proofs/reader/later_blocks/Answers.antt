-- Each block that was passed is valid, so the first that is not is the answer.
use Prim.Native.Nat.{suc, ◌+◌, ◌-◌, ◌/◌}
use mathlib.Core.Path.{◌≡◌, sym, ap, subst, ◌∙◌}
use native.Mathlib.Omega.{arith}
use lib.ListN.{length}
use Rattle.machine.specs.RefusalsLaws.{each_none, each_next, each_refused}
use Rattle.machine.proofs.Passing.{passed_on}
use Rattle.codec.specs.Reader.{block_validity, later_blocks}
use Rattle.codec.proofs.reader.later_blocks.Invariants.{passed}
use Rattle.codec.proofs.reader.later_blocks.Goals as goal

pub loop-i-init : goal.loop-i-init
loop-i-init c = (each_none _, omega arith, omega arith)

pub returns-in_err-validity : goal.returns-in_err-validity
unfolding later_blocks
returns-in_err-validity c =
    let l = c.loop-i in
    let here : suc (l.i - 1) ≡ l.i = omega (arith, l.invariant.1) in
    passed_on c.from_residual.ensures
    ∙ sym (each_refused _ _ (l.i - 1) (omega (arith, l.invariant.1, l.invariant.2)) l.invariant.0 (ap (block_validity _) here ∙ sym c.validity.ensures ∙ c.in_err-validity.was))

pub loop-i-preserved : goal.loop-i-preserved
loop-i-preserved c =
    let l = c.loop-i in
    let f = c.args.bytes.now in
    let here : suc (l.i - 1) ≡ l.i = omega (arith, l.invariant.1) in
    let next : suc (l.i - 1) ≡ l.i + 1 - 1 = omega (arith, l.invariant.1) in
    (subst (passed f) next (each_next (l.i - 1) _ l.invariant.0 (ap (block_validity f) here ∙ sym c.validity.ensures ∙ c.in_ok-validity.was)), omega arith, omega (arith, l.invariant.1))

pub returns : goal.returns
unfolding later_blocks
returns c =
    let l = c.loop-i in
    let f = c.args.bytes.now in
    let all : l.i - 1 ≡ length f / 512 - 1 = omega (arith, l.invariant.1, l.invariant.2) in
    sym (subst (passed f) all l.invariant.0)
