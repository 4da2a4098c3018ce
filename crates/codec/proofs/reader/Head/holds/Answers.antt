-- The parts of the test are made one after the other, and one that fails makes the whole fail.
use Rattle.std.proofs.Common.{ℕ, refl, sym, ap, ◌∙◌, arith}
use Rattle.std.proofs.Math.Dec.{leb}
use Rattle.mask.specs.LogicLaws.{clash, and_true_l, and_false_l, and_false_r}
use Rattle.codec.specs.Reader.{header_holds}
use Rattle.codec.proofs.ReaderLaws.{part_zeros, zeros_header}
use Rattle.codec.proofs.reader.Head.holds.Goals as goal
use Rattle.codec.proofs.reader.Head.holds.Goals.{then-has_letters, else-has_letters}

pub returns-then-byte-le1 : goal.returns-then-byte-le1
unfolding header_holds
returns-then-byte-le1 c =
    let f = c.args.self.now.bytes.now in
    elim c.if-has_letters.branch [
      | then-has_letters w ↦ c.zeros.ensures ∙ part_zeros f 12 6 6 refl (omega arith) ∙ zeros_header f
          ∙ sym (and_true_l _ (sym c.has_letters.ensures ∙ w.if-has_letters.true)
          ∙ and_true_l _ (ap (λ (x : ℕ). leb x 1) (sym w.byte.ensures) ∙ sym w.value-is ∙ c.if-byte-le1.true))
      | else-has_letters w ↦ absurd (clash w.if-has_letters.false (sym w.value-is ∙ c.if-byte-le1.true))
    ]

pub returns-else-byte-le1 : goal.returns-else-byte-le1
unfolding header_holds
returns-else-byte-le1 c =
    elim c.if-has_letters.branch [
      | then-has_letters w ↦ c.if-byte-le1.false
          ∙ sym (and_false_r _ (and_false_l _ (ap (λ (x : ℕ). leb x 1) (sym w.byte.ensures) ∙ sym w.value-is ∙ c.if-byte-le1.false)))
      | else-has_letters w ↦ c.if-byte-le1.false ∙ sym (and_false_l _ (sym c.has_letters.ensures ∙ w.if-has_letters.false))
    ]
