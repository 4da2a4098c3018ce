-- The text lies within the buffer; what is written is that front, or the line of the refusal.
use mathlib.Core.Path.{sym, ◌∙◌}
use Prim.Native.Nat.{ℕ}
use native.Mathlib.Omega.{arith}
use lib.ListN.{length-replicate}
use lib.Seq.{length-take-le}
use Rattle.hanoi.specs.Text.{text_room}
use Rattle.export.specs.ExportingLaws.{export_small}
use Rattle.hoa.proofs.write_machine.Goals as goal

pub slice_bounds-out-end : goal.slice_bounds-out-end
slice_bounds-out-end g c =
    let made = c.text_bytes in
    omega (arith, export_small _ _ _ (sym made.ensures.answer ∙ c.in-Ok.is), made.auto.out ∙ length-replicate {A = ℕ} text_room 0)

pub slice_bounds-write_all-end : goal.slice_bounds-write_all-end
slice_bounds-write_all-end g c =
    let made = c.text_bytes in
    sym (length-take-le _ _ (omega (arith, export_small _ _ _ (sym made.ensures.answer ∙ c.in-Ok.is), made.auto.out ∙ length-replicate {A = ℕ} text_room 0)))
