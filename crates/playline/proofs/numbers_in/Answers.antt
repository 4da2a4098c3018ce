-- The invariant: the numbers that were read and those of what is left are the text's.
use mathlib.Core.Path.{sym, ap, ◌∙◌}
use Prim.Native.Nat.{ℕ, ◌+◌}
use native.Mathlib.Omega.{arith}
use lib.ListN.{get_or}
use Rattle.playline.specs.Lasso.{grown}
use Rattle.playline.specs.LassoLaws.{Read, digit_told, read_as, read_none, read_digit, read_blank, read_end, read_last, read_all}
use Rattle.playline.proofs.numbers_in.Goals as goal
use Rattle.playline.proofs.numbers_in.Goals.{then-is_ascii_digit, else-is_ascii_digit+in-Some, else-is_ascii_digit+in_default}

pub loop-b-init : goal.loop-b-init
loop-b-init c = read_none _ c.new-list.ensures

pub grown-requires : goal.grown-requires
grown-requires c = sym (digit_told _ _ c.is_ascii_digit.ensures.cases) ∙ c.if-is_ascii_digit.true

pub loop-b-preserved : goal.loop-b-preserved
loop-b-preserved c =
    let l = c.loop-b in
    let digit = sym (digit_told _ _ c.is_ascii_digit.ensures.cases) in
    let read : Read c.args.text.now c.if-is_ascii_digit.list.items c.if-is_ascii_digit.begun (l.b-index + 1) = elim c.if-is_ascii_digit.branch [
      | then-is_ascii_digit w ↦
          read_as w.list-is w.begun-is
          (read_digit l.invariant w.grown.result c.loop-b-test.true (digit ∙ w.if-is_ascii_digit.true)
          (w.grown.ensures ∙ ap (λ (n : ℕ). grown n (get_or c.args.text.now l.b-index 0)) w.unwrap_or.ensures))
      | else-is_ascii_digit+in-Some w ↦
          read_as w.list-is w.begun-is (read_end l.invariant w.in-Some.is w.append_byte.ensures c.loop-b-test.true (digit ∙ w.if-is_ascii_digit.false))
      | else-is_ascii_digit+in_default w ↦
          read_as w.list-is (w.begun-is ∙ w.in_default.is) (read_blank l.invariant w.in_default.is c.loop-b-test.true (digit ∙ w.if-is_ascii_digit.false))
    ] in
    read

pub returns-in-Some-begun : goal.returns-in-Some-begun
returns-in-Some-begun c = read_last c.loop-b.invariant c.in-Some-begun.is c.append_byte-in-Some-begun.ensures (omega (arith, c.loop-b-test.false))

pub returns-in_default-begun : goal.returns-in_default-begun
returns-in_default-begun c = read_all c.loop-b.invariant c.in_default-begun.is (omega (arith, c.loop-b-test.false))
