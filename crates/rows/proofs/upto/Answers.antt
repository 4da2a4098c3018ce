-- At the loop's head all earlier rows are the definition's; each row has its own part of the section.
use mathlib.Core.Path.{◌∙◌}
use Prim.Native.Nat.{◌+◌, ◌*◌, ◌-◌, ◌≤◌, ◌<◌}
use native.Mathlib.Omega.{arith}
use lib.ListN.{length}
use Rattle.mask.specs.FrontLaws.{front_none, front_turn}
use Rattle.rows.specs.RowsLaws.{front_rows}
use Rattle.rows.specs.Entries.{upto_rows, upto_of}
use Rattle.rows.specs.WriteLaws.{row_fits, row_part, cut_long, section_some, section_few}
use Rattle.rows.proofs.upto.Goals as goal
use Rattle.rows.proofs.upto.Goals.{In-loop-c}

pub loop-c-init : goal.loop-c-init
loop-c-init c = (omega arith, c.row_count-end.ensures, front_none _ _)

-- there is a row, so that the entries are a section, and the row lies within it
known : (c : In-loop-c) →
    let s = c.args in
    (c.loop-c.c * s.na + s.na ≤ length s.part.now) × ((length s.part.now ≤ 4096) × ((s.na ≤ 64) × (c.loop-c.c < 64)))
known c =
    let s = c.args in
    let q = section_some s.nc s.na (length s.part.now) c.loop-c.invariant.1 c.loop-c-test.true in
    let f = row_fits {c = c.loop-c.c} q.1 q.2 (omega (arith, q.0, c.loop-c-test.true)) in
    (omega (arith, f.0, q.3), (omega (arith, f.1, q.3), (q.2, omega (arith, q.0, q.1, c.loop-c-test.true))))

pub overflow_mul-from : goal.overflow_mul-from
overflow_mul-from c = omega (arith, known (goal.at.overflow_mul-from c).In-loop-c)

pub overflow_add-to : goal.overflow_add-to
overflow_add-to c = omega (arith, known (goal.at.overflow_add-to c).In-loop-c)

pub offset_bounds-part-from : goal.offset_bounds-part-from
offset_bounds-part-from c = omega (arith, known (goal.at.offset_bounds-part-from c).In-loop-c)

pub slice_bounds-row_upto-end : goal.slice_bounds-row_upto-end
slice_bounds-row_upto-end c = omega (arith, known (goal.at.slice_bounds-row_upto-end c).In-loop-c)

pub row_upto-requires : goal.row_upto-requires
row_upto-requires c =
    let a = c.loop-c.c * c.args.na in
    let k = a + c.args.na - a in
    omega (arith, cut_long k a c.args.part.now (omega (arith, known (goal.at.row_upto-requires c).In-loop-c)), known (goal.at.row_upto-requires c).In-loop-c)

pub offset_bounds-out-c : goal.offset_bounds-out-c
offset_bounds-out-c c = omega (arith, known (goal.at.offset_bounds-out-c c).In-loop-c)

pub bounds-out-c : goal.bounds-out-c
bounds-out-c c = (known (goal.at.bounds-out-c c).In-loop-c).1.1.1

pub loop-c-preserved : goal.loop-c-preserved
loop-c-preserved c =
    let x = c.args in
    let a = c.loop-c.c * x.na in
    let k = known (goal.at.loop-c-preserved c).In-loop-c in (
      omega (arith, c.loop-c-test.true),
      c.loop-c.invariant.1,
      front_turn _ _ c.loop-c.invariant.2 k.1.1.1
          (c.row_upto.ensures ∙ row_part x.na c.loop-c.c (a + x.na - a) x.part.now x.bound (omega arith) k.0),
    )

pub returns : goal.returns
unfolding upto_of upto_rows
returns c =
    let s = c.args in
    let f = section_few s.nc s.na (length s.part.now) c.loop-c.invariant.1 in
    rw (← c.loop-c.invariant.1) (front_rows _ _ c.loop-c.invariant.2 (omega (arith, f, c.loop-c.invariant.0, c.loop-c-test.false)))
