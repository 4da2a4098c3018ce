use Rattle.std.proofs.Common.{◌≡◌, ℕ, ◌*◌, ◌<◌, get_or}
use Rattle.codec.specs.Format.{number_at}
use Rattle.codec.proofs.reader.read_numbers.Given as goal

abbrev pub invariant-loop-k : goal.invariant-loop-k
invariant-loop-k g l =
    let t = g.T.Stored in
    (i : ℕ) → i < l.k → get_or l.out i (t.of 0) ≡ t.of (number_at t.BYTES l.bytes (t.BYTES * i))
