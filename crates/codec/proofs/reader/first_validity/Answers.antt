-- The tests are made in the order of the definition, and each return is the first that refuses.
use Rattle.std.proofs.Common.{◌≡◌, ◌%◌, length, refl, sym, ◌∙◌, eq-eqb, ne_eqb}
use Rattle.std.specs.Prelude.{true}
use Rattle.std.proofs.Math.Dec.{eqb}
use Rattle.mask.specs.LogicLaws.{or_l, or_r, not_i}
use Rattle.machine.specs.RefusalsLaws.{then_of, then_refused}
use Rattle.machine.proofs.Passing.{passed_on}
use Rattle.codec.specs.Reader.{first_validity}
use Rattle.codec.proofs.FileLaws.{ragged, not_ragged}
use Rattle.codec.proofs.reader.first_validity.Goals as goal
use Rattle.codec.proofs.reader.first_validity.Goals.{then-bytes-eq0-via-then-bytes-eq0, then-bytes-eq0-via-else-bytes-eq0+then-bytes-ne0}

pub returns-then-bytes-eq0 : goal.returns-then-bytes-eq0
unfolding first_validity
returns-then-bytes-eq0 c =
    let f = c.args.bytes.now in
    let refused : ragged f ≡ true =
    elim c.then-bytes-eq0.branch [
      | then-bytes-eq0-via-then-bytes-eq0 w ↦ or_l _ (eq-eqb (length f) 0 w.if-bytes-eq0.true)
      | then-bytes-eq0-via-else-bytes-eq0+then-bytes-ne0 w ↦ or_r (eqb (length f) 0) (not_i (ne_eqb (length f % 512) 0 w.if-bytes-ne0.true))
    ] in
    rw refused refl

pub returns-in_err-validity : goal.returns-in_err-validity
unfolding first_validity
returns-in_err-validity c =
    passed_on c.from_residual.ensures
    ∙ sym (rw (not_ragged c.args.bytes.now c.if-bytes-eq0.false c.if-bytes-ne0.false) (then_refused _ _ _ (sym c.validity.ensures ∙ c.in_err-validity.was)))

pub returns : goal.returns
unfolding first_validity
returns c =
    c.validity-2.ensures
    ∙ sym (rw (not_ragged c.args.bytes.now c.if-bytes-eq0.false c.if-bytes-ne0.false) (then_of _ _ (sym c.validity.ensures ∙ c.in_ok-validity.was)))
