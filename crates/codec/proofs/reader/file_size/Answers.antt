-- Where the first block is right, its counts give the payload's length, and that the number of blocks.
use Prim.Native.Nat.{ℕ, ◌+◌, ◌*◌, ◌/◌}
use mathlib.Core.Path.{sym, ap, ◌∙◌}
use Rattle.machine.specs.RefusalsLaws.{then_refused, then_of}
use Rattle.machine.proofs.Passing.{passed_on}
use Rattle.codec.specs.Reader.{size_of}
use Rattle.codec.proofs.ReaderLaws.{first_valid, demanded_is}
use Rattle.std.specs.Prelude.{Ok}
use Rattle.codec.proofs.reader.file_size.Goals as goal

pub invariant_of-head : goal.invariant_of-head
invariant_of-head c = record { there = (first_valid _ (sym c.first_validity.ensures ∙ c.in_ok-first_validity.was)).long }

pub returns-in_err-first_validity : goal.returns-in_err-first_validity
unfolding size_of
returns-in_err-first_validity c = passed_on c.from_residual.ensures ∙ sym (then_refused _ _ _ (sym c.first_validity.ensures ∙ c.in_err-first_validity.was))

pub returns : goal.returns
unfolding size_of
returns c =
    ap (λ (n : ℕ). Ok (512 * ((n + 507) / 508))) c.payload_demanded.ensures.value
    ∙ sym (then_of _ _ (sym c.first_validity.ensures ∙ c.in_ok-first_validity.was) ∙ ap Ok (demanded_is _))
