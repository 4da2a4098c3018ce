use Rattle.std.proofs.Common.{◌≡◌, ◌*◌, ◌++◌, drop, get_or}
use Rattle.codec.specs.Format.{numbers}
use Rattle.codec.proofs.writer.put_numbers.Given as goal

abbrev pub invariant-loop-i : goal.invariant-loop-i
invariant-loop-i g l = let t = g.T.Stored in l.out ≡ numbers t.BYTES l.i (λ k. t.value (get_or l.values k (t.of 0))) ++ drop (t.BYTES * l.i) l.initial.out
