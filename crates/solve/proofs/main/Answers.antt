-- The call fills the buffer and gives a length within it; what is written is that front.
use Rattle.std.proofs.Common.{arith, sym, ◌∙◌, ◌≤◌, length, ℕ}
use lib.ListN.{length-replicate}
use lib.Seq.{length-take-le}
use Rattle.codec.specs.Writer.{file_room}
use Rattle.restore.specs.RestoringLaws.{restore_small}
use Rattle.solve.proofs.main.Goals as goal

pub slice_bounds-out-end : goal.slice_bounds-out-end
slice_bounds-out-end c =
    let small = restore_small _ _ (sym c.solve_bytes.ensures.answer ∙ c.in-Ok.is) in
    omega (arith, small, c.solve_bytes.auto.out ∙ length-replicate {A = ℕ} file_room 0)

pub slice_bounds-write_all-end : goal.slice_bounds-write_all-end
slice_bounds-write_all-end c =
    let small = restore_small _ _ (sym c.solve_bytes.ensures.answer ∙ c.in-Ok.is) in
    let fits : c.in-Ok.n ≤ length c.solve_bytes.new.out = omega (arith, small, c.solve_bytes.auto.out ∙ length-replicate {A = ℕ} file_room 0) in
    sym (length-take-le _ _ fits)
