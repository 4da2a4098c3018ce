-- Each return is decided by the first range that fails; the last is the range of the sets itself.
use mathlib.Core.Path.{sym, ◌∙◌}
use native.Mathlib.Omega.{arith}
use lib.Dec.{leb}
use borrow.Author.Tests.{le-leb, lt-leb}
use Rattle.mask.specs.LogicLaws.{and_false_l, and_false_r, and_true_l, and_i}
use Rattle.machine.specs.WellFormed.{counts_ok}
use Rattle.validity.proofs.counts_ok.Goals as goal

pub returns-then-states-lt1 : goal.returns-then-states-lt1
unfolding counts_ok
returns-then-states-lt1 c = sym (and_false_l _ (and_false_l _ (lt-leb 1 _ c.if-states-lt1.true)))

pub returns-then-states-gt64 : goal.returns-then-states-gt64
unfolding counts_ok
returns-then-states-gt64 c = sym (and_false_l _ (and_false_r (leb 1 c.args.states) (lt-leb _ 64 c.if-states-gt64.true)))

pub returns-then-sets-lt1 : goal.returns-then-sets-lt1
unfolding counts_ok
returns-then-sets-lt1 c = sym (and_false_r _ (and_false_l _ (lt-leb 1 _ c.if-sets-lt1.true)))

pub returns : goal.returns
unfolding counts_ok
returns c =
    let s = c.args in
    sym (and_true_l _ (and_i (le-leb 1 s.states (omega arith)) (le-leb s.states 64 (omega arith))) ∙ and_true_l _ (le-leb 1 s.sets (omega arith)))
