-- The number, the part of the payload and the check are stored one behind the other.
use Rattle.std.proofs.Common.{length, take, drop, ◌++◌, ◌≡◌, ◌∙◌, arith}
use borrow.Rule.Slice.PartMut.{put_mid}
use Rattle.codec.specs.WriterLaws.{low_two, front_long, store_block}
use Rattle.codec.proofs.writer.put_block.Goals as goal
use Rattle.codec.proofs.writer.put_block.Goals.{After-copy_from_slice}

long : (c : After-copy_from_slice) → length (take 510 (put_mid 2 508 (c.write.new.bytes ++ drop 2 c.args.block.now) c.copy_from_slice.new.self)) ≡ 510
long c =
    let x = c.args in
    front_long x.part.now x.block.now _ _ x.i c.requires.0 c.requires.1 (c.write.ensures ∙ low_two x.i) c.copy_from_slice.ensures.after

pub slice_bounds-check_of-end-2 : goal.slice_bounds-check_of-end-2
slice_bounds-check_of-end-2 c = omega (arith, long (goal.at.slice_bounds-check_of-end-2 c).After-copy_from_slice)

pub check_of-check-requires : goal.check_of-check-requires
check_of-check-requires c = long (goal.at.check_of-check-requires c).After-copy_from_slice

pub returns : goal.returns
returns c =
    let x = c.args in
    store_block x.part.now x.block.now _ _ x.i c.requires.0 c.requires.1 (c.write.ensures ∙ low_two x.i) c.copy_from_slice.ensures.after
    c.check_of-check.result _ c.check_of-check.ensures c.write-2.ensures
