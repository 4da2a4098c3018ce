-- The size that the first block tells gives 2 to 5 and 19 of block 0, and beside the length 6.
use mathlib.Core.Path.{◌≡◌, sym, ◌∙◌}
use Rattle.machine.specs.Refusals.{valid}
use Rattle.machine.specs.RefusalsLaws.{then_of, then_refused, given_at, given_refused}
use Rattle.machine.proofs.Passing.{passed_on}
use Rattle.codec.specs.Reader.{first_validity, demanded, size_of}
use Rattle.codec.proofs.ReaderLaws.{wrong_length_is}
use Rattle.codec.proofs.reader.file_validity.Goals as goal
use Rattle.codec.proofs.reader.file_validity.Goals.{In_ok-size}

-- where the call gives a length, the first block is right, and the length is the one that it demands
told : (c : In_ok-size) → let f = c.args.bytes.now in (first_validity f ≡ valid) × (demanded f ≡ c.in_ok-size.size)
unfolding size_of
told c = given_at _ _ (sym c.file_size.ensures ∙ c.in_ok-size.was)

pub returns-then-bytes-size : goal.returns-then-bytes-size
returns-then-bytes-size c =
    let t = told (goal.at.returns-then-bytes-size c).In_ok-size in
    sym (then_of _ _ t.0 ∙ wrong_length_is _ (λ e. c.if-bytes-size.true (e ∙ t.1)))

pub later_validity-requires : goal.later_validity-requires
later_validity-requires c = c.if-bytes-size.false ∙ sym (told (goal.at.later_validity-requires c).In_ok-size).1

pub returns-in_err-size : goal.returns-in_err-size
unfolding size_of
returns-in_err-size c = passed_on c.from_residual.ensures ∙ sym (then_refused _ _ _ (given_refused _ _ (sym c.file_size.ensures ∙ c.in_err-size.was)))

pub returns : goal.returns
returns c = c.later_validity.ensures ∙ sym (then_of _ _ (told (goal.at.returns c).In_ok-size).0)
