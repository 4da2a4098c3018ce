-- The payload is stored over zeros, and its blocks in the buffer.
use mathlib.Core.Path.{◌≡◌}
use Prim.Native.Nat.{◌≤◌}
use native.Mathlib.Omega.{arith}
use lib.ListN.{length}
use Rattle.machine.specs.WellFormedLaws.{well_pair}
use Rattle.codec.specs.Format.{payload_most, payload_room}
use Rattle.codec.specs.WriterLaws.{length_small, file_end, store_file}
use Rattle.codec.proofs.writer.put_file.Goals as goal
use Rattle.codec.proofs.writer.put_file.Goals.{After-put_payload-len}

-- the payload is no longer than document 01 says
small : (c : After-put_payload-len) → c.put_payload-len.result ≤ payload_most
small c =
    let x = c.args in
    length_small x.formed.pair.now x.with_table c.put_payload-len.result (well_pair x.formed.pair.now x.formed.well) c.put_payload-len.ensures.length

pub overflow_add-blocks : goal.overflow_add-blocks
overflow_add-blocks c = omega (arith, small (goal.at.overflow_add-blocks c).After-put_payload-len)

pub put_blocks-requires : goal.put_blocks-requires
put_blocks-requires c =
    let kept : length c.put_payload-len.new.out ≡ payload_room = c.put_payload-len.auto.out in
    omega (arith, small (goal.at.put_blocks-requires c).After-put_payload-len, c.requires.1)

pub overflow_mul-result : goal.overflow_mul-result
overflow_mul-result c = omega (arith, small (goal.at.overflow_mul-result c).After-put_payload-len)

pub returns : goal.returns
returns c =
    let x = c.args in
    let p = c.put_payload-len in
    record {
      length = file_end x.formed.pair.now x.with_table p.result p.ensures.length;
      bytes = store_file x.formed.pair.now x.with_table x.table.now p.new.out x.buffer.now c.put_blocks.new.out payload_room p.result p.ensures.length p.ensures.bytes c.put_blocks.ensures;
    }
