-- The length is the one demanded, so all the padding stands in the last block, before its check.
use Rattle.std.proofs.Common.{ℕ, ◌+◌, ◌-◌, ◌*◌, ◌/◌, length, get_or, ap, ◌∙◌, arith}
use Rattle.std.proofs.Math.Dec.{eqb}
use Rattle.mask.specs.Bounded.{every}
use Rattle.codec.proofs.ReaderLaws.{fitting, part_zeros, padding_is}
use Rattle.codec.proofs.reader.padding_holds.Goals as goal

pub invariant_of-head : goal.invariant_of-head
invariant_of-head c = let w = fitting _ c.requires in record { there = omega arith }

pub overflow_sub-len : goal.overflow_sub-len
overflow_sub-len c = let w = fitting _ c.requires in omega arith

pub overflow_sub-n : goal.overflow_sub-n
overflow_sub-n c = let w = fitting _ c.requires in omega arith

pub slice_bounds-zeros-count : goal.slice_bounds-zeros-count
slice_bounds-zeros-count c = let w = fitting _ c.requires in omega (arith, c.payload_demanded-len.ensures)

pub slice_bounds-zeros-start : goal.slice_bounds-zeros-start
slice_bounds-zeros-start c = let w = fitting _ c.requires in omega (arith, c.payload_demanded-len.ensures)

pub returns : goal.returns
returns c =
    let f = c.args.bytes.now in
    let n = length f / 512 in
    let w = fitting f c.requires in
    let len = c.payload_demanded-len.result in
    c.zeros.ensures ∙ part_zeros f (len + 4 * n - 2) (508 * n - len) _ (omega (arith, c.payload_demanded-len.ensures)) (omega (arith, c.payload_demanded-len.ensures))
    ∙ ap (λ (len : ℕ). every (508 * n - len) (λ i. eqb (get_or f (len + 4 * n - 2 + i) 0) 0)) c.payload_demanded-len.ensures.value
    ∙ padding_is f c.requires
