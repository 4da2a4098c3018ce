-- The four parts are stored one behind the other.
use Rattle.std.proofs.Common.{◌≡◌, length, ◌∙◌, arith, rules}
use Rattle.codec.specs.ListLaws.{table_front}
use Rattle.codec.specs.WriterLaws.{numbers_front, store_machine}
use Rattle.codec.proofs.writer.put_machine.Goals as goal

pub returns : goal.returns
returns c =
    let x = c.args in
    let m = x.m in
    let observations : length m.observations ≡ 64 = search rules in
    let successors : length m.successors ≡ 64 = search rules in
    let fairness : length m.fairness ≡ 8 = search rules in
    store_machine m x.out.now _ _ _ _ _ _ _ c.requires.out_length (omega arith) (omega arith) (omega arith)
    (c.copy_from_slice.ensures.after ∙ table_front m.states m.observations (omega arith))
    c.write.ensures
    (c.put_numbers.ensures ∙ numbers_front 8 m.states m.successors (omega arith) (omega arith))
    (c.put_numbers-2.ensures ∙ numbers_front 8 m.sets m.fairness (omega arith) (omega arith))
