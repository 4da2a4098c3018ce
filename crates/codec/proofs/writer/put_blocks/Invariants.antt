use Rattle.std.proofs.Common.{◌≡◌, ◌*◌, ◌/◌, ◌%◌, get_or}
use Rattle.mask.specs.Tables.{front}
use Rattle.codec.specs.Format.{block}
use Rattle.codec.proofs.writer.put_blocks.Given as goal

abbrev pub invariant-loop-i : goal.invariant-loop-i
invariant-loop-i l = l.out ≡ front (512 * l.i) (λ k. get_or (block l.payload (k / 512)) (k % 512) 0) l.initial.out
