-- The length is the one demanded, so the later blocks and the padding are left, in this order.
use mathlib.Core.Path.{sym, ◌∙◌}
use Rattle.mask.specs.LogicLaws.{not_i, not_f}
use Rattle.machine.specs.RefusalsLaws.{then_of, then_refused}
use Rattle.machine.proofs.Passing.{passed_on}
use Rattle.codec.proofs.ReaderLaws.{blocks_then}
use Rattle.codec.proofs.reader.later_validity.Goals as goal

pub returns-in_err-later_blocks : goal.returns-in_err-later_blocks
returns-in_err-later_blocks c =
    passed_on c.from_residual.ensures
    ∙ sym (blocks_then _ c.requires ∙ then_refused _ _ _ (sym c.later_blocks.ensures ∙ c.in_err-later_blocks.was))

pub returns-then-not-padding_holds : goal.returns-then-not-padding_holds
returns-then-not-padding_holds c =
    sym (blocks_then _ c.requires ∙ then_of _ _ (sym c.later_blocks.ensures ∙ c.in_ok-later_blocks.was)
    ∙ rw (not_i (sym c.padding_holds.ensures ∙ c.if-not-padding_holds.true)))

pub returns : goal.returns
returns c =
    sym (blocks_then _ c.requires ∙ then_of _ _ (sym c.later_blocks.ensures ∙ c.in_ok-later_blocks.was)
    ∙ rw (not_f (sym c.padding_holds.ensures ∙ c.if-not-padding_holds.false)))
