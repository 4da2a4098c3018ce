use Rattle.std.proofs.Common.{◌≡◌, ◌+◌, ◌/◌, ◌%◌, cond, eqb, get_or}
use Rattle.mask.specs.Tables.{front}
use Rattle.brute.specs.Numbers.{entry_of}
use Rattle.comparison.proofs.tables.Numbered.put_altered.Given as goal

abbrev pub invariant-loop-e : goal.invariant-loop-e
invariant-loop-e l =
    let k = l.self in
    l.entry-items ≡ front l.e (λ i. cond (eqb i (l.x / (k.top + 1))) (entry_of (l.x % (k.top + 1))) (get_or k.solved.now i 0)) l.initial.entry-items
