-- The check is looked at first, and the number only where the check holds. The way on which nothing is refused stands first: there an edit by which
-- a number is not looked at is refused, with a number that is not the block's place.
use mathlib.Core.Path.{sym, ap, ◌∙◌}
use native.Mathlib.Omega.{arith}
use Rattle.codec.proofs.ReaderLaws.{block_damaged, block_misplaced, block_valid}
use Rattle.std.specs.Prelude.{Err}
use Rattle.codec.proofs.reader.Block.validity.Goals as goal

pub returns : goal.returns
returns c =
    sym (block_valid _ _ (sym c.check_holds.ensures ∙ c.if-not-check_holds.false, omega (arith, c.number_found-number.ensures)))

pub returns-then-not-check_holds : goal.returns-then-not-check_holds
returns-then-not-check_holds c =
    ap Err c.damaged.ensures ∙ sym (block_damaged _ _ (sym c.check_holds.ensures ∙ c.if-not-check_holds.true))

pub returns-then-number-self : goal.returns-then-number-self
returns-then-number-self c =
    let found = c.number_found-number.ensures in
    rw found (sym (block_misplaced _ _ (sym c.check_holds.ensures ∙ c.if-not-check_holds.false) (λ e. omega (arith, found, e))))
