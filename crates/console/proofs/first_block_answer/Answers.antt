-- The first 512 bytes, or all of fewer, are what `take 512` gives; what the reader says of their size is said as a number.
use mathlib.Core.Path.{◌≡◌, sym, ap, ◌∙◌}
use native.Mathlib.Omega.{arith}
use lib.ListN.{take, length-take}
use Rattle.codec.specs.Reader.{size_of}
use Rattle.console.specs.FirstBlock.{size_number}
use Rattle.console.specs.FirstBlockLaws.{size_told, first_take}
use Rattle.console.proofs.first_block_answer.Goals as goal
use Rattle.console.proofs.first_block_answer.Goals.{After-file_size}

-- what the reader says of the first block
sized : (c : After-file_size) → c.file_size.result ≡ size_of (take 512 c.args.bytes.now)
sized c = c.file_size.ensures ∙ ap size_of (first_take c.args.bytes.now c.min-end.ensures)

pub overflow_cast-result : goal.overflow_cast-result
overflow_cast-result c =
    let size = size_told _ _ (sym (sized (goal.at.overflow_cast-result c).After-file_size) ∙ c.in-Ok.is) in
    omega (arith, size.2)

pub returns-in-Ok : goal.returns-in-Ok
unfolding size_number
returns-in-Ok c = sym (ap size_number (sym (sized (goal.at.returns-in-Ok c).After-file_size) ∙ c.in-Ok.is))

pub returns-in-Err : goal.returns-in-Err
unfolding size_number
returns-in-Err c = c.number.ensures ∙ sym (ap size_number (sym (sized (goal.at.returns-in-Err c).After-file_size) ∙ c.in-Err.is))
