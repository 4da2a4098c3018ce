-- Whatever the present state, there is a partner exactly if there is one among the states that are left; each turn takes the lowest of them.
use mathlib.Core.Path.{sym, ap, ◌∙◌}
use Prim.Native.Nat.{ℕ}
use native.Mathlib.Omega.{arith}
use lib.Bits.{and_le_l}
use lib.ListN.{get_or}
use Rattle.mask.specs.BitsLaws.{rest_lt}
use Rattle.mask.specs.Bounded.{some_in}
use Rattle.mask.specs.BoundedLaws.{some_in_zero}
use Rattle.mask.specs.WalkLaws.{some_in_hit, some_in_miss}
use Rattle.machine.specs.PartnerLaws.{within, within_hit, within_miss}
use Rattle.machine.specs.SingleStepLaws.{single_row}
use Rattle.machine.proofs.has_partner.Goals as goal
use Rattle.machine.proofs.has_partner.Goals.{else-a-row, then-a-row+else-row-a}

pub loop-m-init : goal.loop-m-init
loop-m-init c =
    let x = c.args in (
      omega (arith, and_le_l x.moves x.matched),
      λ present. single_row present x.moves x.matched x.row.now x.bound (λ a. get_or x.row.now a 0),
    )

pub returns-then-row-a : goal.returns-then-row-a
returns-then-row-a c =
    let l = c.loop-m in
    let x = c.args in
    let a = c.lowest-a in
    λ present. sym (l.invariant.1 present ∙ some_in_hit 64 l.m (within x.row.now x.bound) a.result (omega arith) l.invariant.0 a.ensures
    (within_hit x.row.now x.bound a.result (omega arith) (omega arith)))

pub loop-m-smaller : goal.loop-m-smaller
loop-m-smaller c = omega (arith, c.rest-m.ensures, rest_lt c.loop-m.m (omega arith))

pub loop-m-preserved : goal.loop-m-preserved
loop-m-preserved c =
    let l = c.loop-m in
    let x = c.args in
    let a = c.lowest-a in (
      omega (arith, c.rest-m.ensures, rest_lt l.m (omega arith)),
      λ present. l.invariant.1 present ∙ some_in_miss 64 l.m (within x.row.now x.bound) a.result (omega arith) l.invariant.0 a.ensures
          (within_miss x.row.now x.bound a.result (λ h. elim c.if-a-row.branch [ then-a-row+else-row-a w ↦ omega arith | else-a-row w ↦ omega arith ]))
          ∙ ap (λ (m : ℕ). some_in 64 m (within x.row.now x.bound)) (sym c.rest-m.ensures),
    )

pub returns : goal.returns
returns c =
    let x = c.args in
    λ present. sym (c.loop-m.invariant.1 present ∙ ap (λ (m : ℕ). some_in 64 m (within x.row.now x.bound)) c.loop-m-test.false
    ∙ some_in_zero 64 (within x.row.now x.bound))
