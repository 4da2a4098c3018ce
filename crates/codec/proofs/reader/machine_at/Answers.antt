-- Each array is zeros that are filled from the front, as the definition's tables are.
use Rattle.std.proofs.Common.{◌≡◌, ℕ, List, ◌++◌, ◌+◌, ◌-◌, ◌*◌, take, drop, replicate, refl, ap, ◌∙◌, arith, length-take-le}
use Rattle.mask.specs.Tables.{table}
use Rattle.codec.specs.Format.{number_at}
use Rattle.codec.specs.NumberLaws.{part_number, part_numbers}
use Rattle.codec.specs.ListLaws.{part_table}
use Rattle.codec.proofs.ReaderLaws.{machine_is}
use Rattle.codec.proofs.reader.machine_at.Goals as goal

pub returns : goal.returns
returns c =
    let a = c.args in
    let n_is : a.at + a.n - a.at ≡ a.n = omega arith in
    let sets_at = a.at + a.n + 8 + 8 * a.n in
    let sets_is : sets_at ≡ a.at + 9 * a.n + 8 = omega arith in
    machine_is a.q.now a.at a.n a.sets _ _ _ _ (omega arith) (omega arith) (c.read.ensures ∙ part_number 8 (a.at + a.n + 8 - (a.at + a.n)) a.q.now (a.at + a.n) (omega arith))
    (ap (λ (l : List ℕ). l ++ drop a.n (replicate 64 0))
    (c.copy_from_slice.ensures.after ∙ ap (λ (k : ℕ). take k (drop a.at a.q.now)) n_is ∙ part_table a.q.now a.at a.n _ (omega arith) (λ k l. refl)))
    (ap (λ (l : List ℕ). l ++ drop a.n (replicate 64 0))
    (c.read_numbers.ensures ∙ ap (λ (k : ℕ). table k (λ s. number_at 8 (take (a.at + a.n + 8 + 8 * a.n - (a.at + a.n + 8)) (drop (a.at + a.n + 8) a.q.now)) (8 * s))) (length-take-le a.n (replicate 64 0) (omega arith)) ∙ part_numbers 8 a.n _ a.q.now (a.at + a.n + 8) (omega arith)))
    (ap (λ (l : List ℕ). l ++ drop a.sets (replicate 8 0))
    (c.read_numbers-2.ensures ∙ ap (λ (k : ℕ). table k (λ s. number_at 8 (take (sets_at + 8 * a.sets - sets_at) (drop sets_at a.q.now)) (8 * s))) (length-take-le a.sets (replicate 8 0) (omega arith)) ∙ part_numbers 8 a.sets _ a.q.now sets_at (omega arith)
    ∙ ap (λ (p : ℕ). table a.sets (λ k. number_at 8 a.q.now (p + 8 * k))) sets_is))
