-- The best state and its limit are those of the states passed; each turn takes the lowest state that is left.
use mathlib.Core.Path.{sym, ◌∙◌}
use Prim.Native.Nat.{◌<◌}
use native.Mathlib.Omega.{arith}
use lib.Bits.{bit_and, and_le_l}
use lib.ListN.{get_or}
use Rattle.mask.specs.BitsLaws.{rest_lt}
use Rattle.machine.specs.PartnerLaws.{walked_start, walked_take, walked_keep, walked_done, partner_row}
use Rattle.machine.proofs.least_within.Goals as goal
use Rattle.machine.proofs.least_within.Goals.{else-a-row, then-a-row+else-e-limit, then-a-row+then-e-limit}

pub loop-m-init : goal.loop-m-init
loop-m-init c =
    let x = c.args in
    walked_start x.row.now x.bound (bit_and x.moves x.matched) (omega (arith, and_le_l x.moves x.matched))

pub loop-m-smaller : goal.loop-m-smaller
loop-m-smaller c = omega (arith, c.rest-m.ensures, rest_lt c.loop-m.m (omega arith))

pub loop-m-preserved : goal.loop-m-preserved
loop-m-preserved c =
    let l = c.loop-m in
    let x = c.args in
    let a = c.lowest-a in
    let moves = bit_and x.moves x.matched in
    let p : 0 < l.m = omega arith in
    let keep = walked_keep x.row.now x.bound moves l.m l.best l.limit a.result p a.ensures l.invariant in
    let take = walked_take x.row.now x.bound moves l.m l.best l.limit a.result p a.ensures l.invariant in
    rw c.rest-m.ensures (elim c.if-a-row.branch [ then-a-row+then-e-limit w ↦ rw (w.best-is, w.limit-is) (take w.if-a-row.true w.if-e-limit.true) | then-a-row+else-e-limit w ↦ rw (w.best-is, w.limit-is) (keep (λ h. w.if-e-limit.false)) | else-a-row w ↦ rw (w.best-is, w.limit-is) (keep (λ h. omega arith)) ])

pub returns : goal.returns
returns c =
    let l = c.loop-m in
    let x = c.args in
    walked_done x.row.now x.bound (bit_and x.moves x.matched) l.best l.limit (rw c.loop-m-test.false at l.invariant)
    ∙ sym (partner_row x.moves x.matched x.row.now x.bound (λ a. get_or x.row.now a 0))
