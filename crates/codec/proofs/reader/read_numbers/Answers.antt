-- After k turns the first k numbers are read.
use Rattle.std.proofs.Common.{ℕ, ◌+◌, ◌-◌, ◌*◌, ap, ◌∙◌, arith}
use Rattle.codec.specs.Format.{number_at}
use Rattle.codec.specs.NumberLaws.{part_number}
use Rattle.mask.specs.TablesLaws.{fill_step, fill_done}
use Rattle.codec.proofs.reader.read_numbers.Goals as goal

pub loop-k-preserved : goal.loop-k-preserved
loop-k-preserved g c =
    let t = g.T.Stored in
    let l = c.loop-k in
    fill_step (t.of 0) l.out (λ i. t.of (number_at t.BYTES c.args.bytes.now (t.BYTES * i))) l.k c.read.result (omega arith)
    (c.read.ensures ∙ ap t.of (part_number t.BYTES (c.BYTES.result * l.k + c.BYTES-in-loop-k.result - c.BYTES.result * l.k) c.args.bytes.now (c.BYTES.result * l.k) (omega (arith, c.BYTES-in-loop-k.ensures)) ∙ ap (λ (n : ℕ). number_at t.BYTES c.args.bytes.now (n * l.k)) c.BYTES.ensures)) l.invariant

pub returns : goal.returns
returns g c = fill_done (g.T.Stored.of 0) _ c.loop-k.out _ c.loop-k.auto.out (λ i l. c.loop-k.invariant i (omega arith))
