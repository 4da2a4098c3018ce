-- At the loop's head the set holds whatever meets the rule within the start, and each row that is not due meets the rule; each turn lowers the
-- sum of the rows, or leaves them and has one row less due.
use mathlib.Core.Bool.{Bool, cond}
use mathlib.Core.Path.{◌≡◌, ap, ◌∙◌}
use Prim.Native.Nat.{◌<◌}
use native.Mathlib.Omega.{arith}
use lib.ListN.{get_or}
use lib.Bits.{bit_and, bit_or, and_le_l, or_lt}
use Rattle.std.proofs.Common.{rules}
use Rattle.mask.specs.Bits.{has_bit}
use Rattle.mask.specs.BitsLaws.{rest_lt}
use Rattle.mask.specs.Bounded.{sum}
use Rattle.rows.specs.Rows.{meet_of}
use Rattle.rows.specs.RowsLaws.{walk_index}
use Rattle.rows.specs.LargestLaws.{shrinking_start, shrinking_kept, shrinking_lowered, shrinking_done, lowered_falls, weight_falls}
use Rattle.rows.proofs.largest.Goals as goal
use Rattle.rows.proofs.largest.Goals.{After-lowest-c, After-rest-due}

pub loop-due-init : goal.loop-due-init
loop-due-init c =
    let x = c.args in
    (omega arith, λ k. shrinking_start x.nc x.moves.now x.predecessors.now x.base.now x.members k.few k.long k.first_are c.full-due.ensures)

index : (c : After-lowest-c) → c.lowest-c.result < 64
index c = walk_index c.lowest-c.result c.lowest-c.ensures c.loop-due-test.true c.loop-due.invariant.0

pub offset_bounds-x-c : goal.offset_bounds-x-c
offset_bounds-x-c c = omega (arith, index (goal.at.offset_bounds-x-c c).After-lowest-c)

pub bounds-x-c : goal.bounds-x-c
bounds-x-c c = index (goal.at.bounds-x-c c).After-lowest-c

pub offset_bounds-moves-c : goal.offset_bounds-moves-c
offset_bounds-moves-c c = omega (arith, index (goal.at.offset_bounds-moves-c c).After-lowest-c)

pub bounds-moves-c : goal.bounds-moves-c
bounds-moves-c c = index (goal.at.bounds-moves-c c).After-lowest-c

pub offset_bounds-base-c : goal.offset_bounds-base-c
offset_bounds-base-c c = omega (arith, index (goal.at.offset_bounds-base-c c).After-lowest-c)

pub bounds-base-c : goal.bounds-base-c
bounds-base-c c = index (goal.at.bounds-base-c c).After-lowest-c

-- what the row becomes, over the state taken
row_is : (c : After-rest-due) →
    let x = c.args in
    let l = c.loop-due in
    let i = c.lowest-c.result in
    bit_and (get_or l.x i 0) c.rule_row.result
    ≡ bit_and (get_or l.x i 0) (bit_or (get_or x.base.now i 0) (cond (has_bit x.members i) 0 (meet_of (get_or x.moves.now i 0) l.reached)))
row_is c =
    let x = c.args in
    let l = c.loop-due in
    let i = c.lowest-c.result in
    ap (bit_and (get_or l.x i 0)) (c.rule_row.ensures
    ∙ ap (λ (b : Bool). bit_or (get_or x.base.now i 0) (cond b 0 (meet_of (get_or x.moves.now i 0) l.reached))) c.has.ensures)

pub offset_bounds-x-c-then-row-old : goal.offset_bounds-x-c-then-row-old
offset_bounds-x-c-then-row-old c = omega (arith, index (goal.at.offset_bounds-x-c-then-row-old c).After-lowest-c)

pub bounds-x-c-then-row-old : goal.bounds-x-c-then-row-old
bounds-x-c-then-row-old c = index (goal.at.bounds-x-c-then-row-old c).After-lowest-c

pub offset_bounds-reached-c : goal.offset_bounds-reached-c
offset_bounds-reached-c c = omega (arith, index (goal.at.offset_bounds-reached-c c).After-lowest-c)

pub bounds-reached-c : goal.bounds-reached-c
bounds-reached-c c = index (goal.at.bounds-reached-c c).After-lowest-c

pub offset_bounds-dependents-c : goal.offset_bounds-dependents-c
offset_bounds-dependents-c c = omega (arith, index (goal.at.offset_bounds-dependents-c c).After-lowest-c)

pub bounds-dependents-c : goal.bounds-dependents-c
bounds-dependents-c c = index (goal.at.bounds-dependents-c c).After-lowest-c

-- the loop's head after a row was lowered
pub loop-due-preserved-then-row-old : goal.loop-due-preserved-then-row-old
loop-due-preserved-then-row-old c =
    let x = c.args in (
      or_lt 64 c.rest-due.result (get_or c.args.dependents.now c.lowest-c.result 0) (omega arith) (search rules),
      λ k. rw (c.rest-due.ensures, c.partners.ensures)
          (shrinking_lowered x.nc x.moves.now x.predecessors.now x.base.now x.members k.few c.lowest-c.ensures c.loop-due-test.true (c.loop-due.invariant.1 k) (row_is (goal.at.loop-due-preserved-then-row-old c).After-rest-due) k.dependents_are),
    )

pub loop-due-smaller-then-row-old : goal.loop-due-smaller-then-row-old
loop-due-smaller-then-row-old c =
    let l = c.loop-due in
    weight_falls (sum 64 (λ i. get_or l.x i 0)) _ l.due _
    (lowered_falls l.x c.lowest-c.result _ (index (goal.at.loop-due-smaller-then-row-old c).After-lowest-c) (and_le_l _ _) c.if-row-old.true) (or_lt 64 c.rest-due.result (get_or c.args.dependents.now c.lowest-c.result 0) (omega arith) (search rules))

pub loop-due-smaller : goal.loop-due-smaller
loop-due-smaller c =
    omega (arith, c.rest-due.ensures, rest_lt c.loop-due.due (omega (arith, c.loop-due-test.true)))

pub loop-due-preserved : goal.loop-due-preserved
loop-due-preserved c =
    let x = c.args in (
      omega (arith, c.rest-due.ensures, c.loop-due.invariant.0, rest_lt c.loop-due.due (omega (arith, c.loop-due-test.true))),
      λ k. rw c.rest-due.ensures
          (shrinking_kept x.nc x.moves.now x.predecessors.now x.base.now x.members k.few c.lowest-c.ensures c.loop-due-test.true (c.loop-due.invariant.1 k) (row_is (goal.at.loop-due-preserved c).After-rest-due) c.if-row-old.false),
    )

pub returns : goal.returns
returns c =
    let x = c.args in
    λ k. shrinking_done x.nc x.moves.now x.predecessors.now x.base.now x.members k.few c.loop-due-test.false (c.loop-due.invariant.1 k)
