-- After i turns the payloads of the first i blocks stand at the front, and the rest of the file is what stands behind these blocks.
use Rattle.std.proofs.Common.{◌≡◌, ◌+◌, ◌-◌, ◌*◌, ℕ, drop, length, refl, sym, ap, ◌∙◌, arith}
use borrow.Rule.Slice.PartMut.{put_mid}
use Rattle.mask.specs.FrontLaws.{front_none}
use Rattle.mask.specs.Tables.{front}
use Rattle.codec.specs.Reader.{payload_byte}
use Rattle.codec.specs.BlockLaws.{chunk_turn, join_turn}
use Rattle.codec.proofs.reader.join.Goals as goal

pub loop-i-init : goal.loop-i-init
loop-i-init c =
    rw (c.into_iter-i-iterator.ensures.into_iter_gives, c.enumerate-i-items.ensures.source, c.enumerate-i-items.ensures.count, c.chunks_exact.ensures.rest, c.chunks_exact.ensures.size)
    (refl, refl, omega arith, front_none _ _)

pub loop-i-preserved : goal.loop-i-preserved
loop-i-preserved c =
    let f = c.args.bytes.now in
    let l = c.loop-i in
    let h = l.invariant in
    let s = c.in-Some.ensures.steps in
    let i = l.i-iterator.count in
    let long : length c.in-Some.block.now ≡ 512 = s.0.1.1 ∙ h.0 in
    let t = chunk_turn f l.i-iterator.iter.rest.now c.in-Some.block.now c.next.new.self.iter.rest.now i h.1 s.0.1.0 long in
    let j = c.in-Some.i in
    let k = 508 * j + 508 - 508 * j in (
      s.0.0 ∙ h.0,
      t.1 ∙ ap (λ (n : ℕ). drop (512 * n) f) (sym s.2),
      omega (arith, t.2, s.2),
      ap (λ (n : ℕ). put_mid (508 * n) k l.payload c.copy_from_slice.new.self) s.1
          ∙ join_turn f c.args.payload.now l.payload c.copy_from_slice.new.self c.in-Some.block.now i 508 k h.3 c.copy_from_slice.ensures.after t.0 long (omega arith) (omega arith)
          ∙ ap (λ (n : ℕ). front (508 * n) (payload_byte f) c.args.payload.now) (sym s.2),
    )
