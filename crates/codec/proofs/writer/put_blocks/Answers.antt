-- After i turns the first i blocks are stored.
use Rattle.std.proofs.Common.{◌*◌, ◌+◌, ◌-◌, refl, arith}
use Rattle.mask.specs.FrontLaws.{front_none}
use Rattle.codec.specs.WriterLaws.{store_blocks}
use Rattle.codec.proofs.writer.put_blocks.Goals as goal

pub loop-i-init : goal.loop-i-init
loop-i-init c = front_none _ _

pub loop-i-preserved : goal.loop-i-preserved
loop-i-preserved c =
    let x = c.args in
    let l = c.loop-i in
    let to = 512 * l.i in
    let from = 508 * l.i in
    store_blocks x.payload.now x.out.now l.out c.put_block.new.block _ l.i (to + 512 - to) (from + 508 - from) l.invariant c.put_block.ensures refl (omega arith) (omega arith) (omega arith)
