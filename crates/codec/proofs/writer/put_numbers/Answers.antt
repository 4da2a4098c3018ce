-- After i turns the first i numbers are stored.
use Rattle.std.proofs.Common.{ℕ, ◌*◌, ◌+◌, ◌-◌, get_or, refl, ap, ◌∙◌, arith}
use Rattle.std.proofs.lemmas.List.{get_or_read_under}
use Rattle.codec.specs.WriterLaws.{numbers_none, store_next}
use Rattle.codec.proofs.writer.put_numbers.Goals as goal

pub loop-i-init : goal.loop-i-init
loop-i-init g c = numbers_none g.T.Stored.BYTES _ _

pub loop-i-preserved : goal.loop-i-preserved
loop-i-preserved g c =
    let t = g.T.Stored in
    let a = c.args in
    let l = c.loop-i in
    let here = get_or_read_under a.values.now l.i _ _ (t.of 0) c.index-values-i.is c.loop-i-test.true refl in
    let at = c.BYTES.result * l.i in
    store_next t.BYTES a.out.now l.out c.write.new.bytes l.i (λ k. t.value (get_or a.values.now k (t.of 0))) at (at + c.BYTES-in-loop-i.result - at)
    g.met.T.Stored.some l.invariant (c.write.ensures ∙ rw here refl) (ap (λ (n : ℕ). n * l.i) c.BYTES.ensures) (omega (arith, c.BYTES-in-loop-i.ensures))
