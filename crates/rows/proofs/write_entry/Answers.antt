-- At the loop's head the rows of all earlier concrete states are written; each row has its own part of the section.
use mathlib.Core.Path.{◌≡◌, refl, ap, ◌∙◌}
use Prim.Native.Nat.{ℕ, ◌+◌, ◌*◌, ◌-◌, ◌≤◌, ◌<◌}
use native.Mathlib.Omega.{arith}
use lib.ListN.{length, take, drop}
use Rattle.rows.specs.Entries.{write_row}
use Rattle.rows.specs.WriteLaws.{written_turn, written_whole, row_fits, section_some}
use Rattle.rows.proofs.write_entry.Goals as goal
use Rattle.rows.proofs.write_entry.Goals.{In-loop-c}

-- there is a row, so that the entries are a section, and the row lies within it
known : (c : In-loop-c) →
    let s = c.args in
    (c.loop-c.c * s.na + s.na ≤ length s.part.now) × ((length s.part.now ≤ 4096) × (c.loop-c.c < 64))
known c =
    let s = c.args in
    let q = section_some s.nc s.na (length s.part.now) c.loop-c.invariant.1 c.loop-c-test.true in
    let f = row_fits {c = c.loop-c.c} q.1 q.2 (omega (arith, q.0, c.loop-c-test.true)) in
    (omega (arith, f.0, q.3), (omega (arith, f.1, q.3), omega (arith, q.0, q.1, c.loop-c-test.true)))

pub overflow_mul-from : goal.overflow_mul-from
overflow_mul-from c = omega (arith, known (goal.at.overflow_mul-from c).In-loop-c)

pub overflow_add-to : goal.overflow_add-to
overflow_add-to c = omega (arith, known (goal.at.overflow_add-to c).In-loop-c)

pub offset_bounds-x-c : goal.offset_bounds-x-c
offset_bounds-x-c c = omega (arith, known (goal.at.offset_bounds-x-c c).In-loop-c)

pub bounds-x-c : goal.bounds-x-c
bounds-x-c c = (known (goal.at.bounds-x-c c).In-loop-c).1.1

pub offset_bounds-y-c : goal.offset_bounds-y-c
offset_bounds-y-c c = omega (arith, known (goal.at.offset_bounds-y-c c).In-loop-c)

pub bounds-y-c : goal.bounds-y-c
bounds-y-c c = (known (goal.at.bounds-y-c c).In-loop-c).1.1

pub offset_bounds-part-from : goal.offset_bounds-part-from
offset_bounds-part-from c = omega (arith, known (goal.at.offset_bounds-part-from c).In-loop-c)

pub slice_bounds-write_row-end : goal.slice_bounds-write_row-end
slice_bounds-write_row-end c = omega (arith, known (goal.at.slice_bounds-write_row-end c).In-loop-c, c.loop-c.invariant.2.long)

pub loop-c-preserved : goal.loop-c-preserved
loop-c-preserved c =
    let x = c.args in
    let a = c.loop-c.c * x.na in
    let k = a + x.na - a in
    let e : k ≡ x.na = omega arith in (
      omega (arith, c.loop-c-test.true),
      c.loop-c.invariant.1,
      written_turn x.na x.x.now x.y.now x.v x.part.now refl e (known (goal.at.loop-c-preserved c).In-loop-c).0
          (c.write_row.ensures ∙ ap (λ (m : ℕ). write_row m x.v (take k (drop a c.loop-c.part))) c.without.ensures) c.loop-c.invariant.2,
    )

pub returns : goal.returns
returns c =
    let x = c.args in
    written_whole x.nc x.na x.x.now x.y.now x.v x.part.now c.loop-c.invariant.1 (omega (arith, c.loop-c.invariant.0, c.loop-c-test.false)) c.loop-c.invariant.2
