use Rattle.std.proofs.Common.{◌≡◌, ◌≤◌, ◌*◌, length, drop}
use Rattle.codec.specs.Reader.{payload_byte}
use Rattle.mask.specs.Tables.{front}
use Rattle.codec.proofs.reader.join.Given as goal

abbrev pub invariant-loop-i : goal.invariant-loop-i
invariant-loop-i l =
    let it = l.i-iterator in
    (it.iter.size ≡ 512) × (it.iter.rest.now ≡ drop (512 * it.count) l.bytes) × (512 * it.count ≤ length l.bytes)
    × (l.payload ≡ front (508 * it.count) (payload_byte l.bytes) l.initial.payload)
