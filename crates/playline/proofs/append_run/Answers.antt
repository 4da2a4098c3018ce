-- The parts of the line, one behind the other.
use mathlib.Core.List.{List, ◌++◌}
use mathlib.Core.Path.{ap, ◌∙◌}
use Prim.Native.Nat.{ℕ}
use lib.ListN.{take}
use Rattle.text.specs.AppendLaws.{appended, last, next}
use Rattle.playline.specs.LineLaws.{run_parts, run_line_lem}
use Rattle.playline.proofs.append_run.Goals as goal

pub returns : goal.returns
returns c =
    let x = c.args in
    appended 114700 x.line.now.items (run_parts x.stem.now x.cycle.now)
    (next c.append.ensures (next c.append_states.ensures (next c.append-2.ensures (next c.append_states-2.ensures (last c.append_byte.ensures)))))
    ∙ ap (λ (w : List ℕ). take 114700 (x.line.now.items ++ w)) (run_line_lem x.stem.now x.cycle.now)
