-- The moves that are in the row are the bits of one mask: the present state, its lowest, or none.
use mathlib.Core.Bool.{false}
use mathlib.Core.Path.{◌≡◌, sym, ap, ◌∙◌}
use native.Mathlib.Omega.{arith}
use lib.Bits.{bit_and, and_le_l}
use Rattle.std.specs.Prelude.{Some}
use Rattle.mask.specs.Bits.{has_bit}
use Rattle.mask.specs.BitsLaws.{has_beyond}
use Rattle.machine.specs.Step.{present_of}
use Rattle.machine.specs.SingleStepLaws.{mask_stays, mask_lowest, mask_nobody}
use Rattle.machine.proofs.partner_in.Goals as goal
use Rattle.machine.proofs.partner_in.Goals.{After-lowest, in-Some+else-has, in_default}

pub returns-then-has : goal.returns-then-has
unfolding present_of
returns-then-has c =
    let s = c.args in
    rw c.in-Some.is (sym (mask_stays c.in-Some.a s.moves s.row (omega arith) (sym c.has.ensures ∙ c.if-has.true)))

pub returns-then-m-eq0 : goal.returns-then-m-eq0
returns-then-m-eq0 c = let s = c.args in sym (mask_nobody (present_of s.present) s.moves s.row (omega arith) c.if-m-eq0.true)

-- no state of the mask is the present one
away : (c : After-lowest) → let s = c.args in has_bit (bit_and s.moves s.row) (present_of s.present) ≡ false
unfolding present_of
away c =
    let s = c.args in
    elim c.match-present.branch [
      | in-Some+else-has w ↦ rw w.in-Some.is (sym w.has.ensures ∙ w.if-has.false)
      | in_default w ↦ rw w.in_default.is (has_beyond 64 (bit_and s.moves s.row) 64 (omega (arith, and_le_l s.moves s.row)) (omega arith))
    ]

pub returns-else-m-eq0 : goal.returns-else-m-eq0
returns-else-m-eq0 c =
    let s = c.args in
    ap Some c.lowest.ensures ∙ sym (mask_lowest (present_of s.present) s.moves s.row (omega arith) c.if-m-eq0.false (away c))
