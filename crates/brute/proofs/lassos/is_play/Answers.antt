use Rattle.std.proofs.Common.{arith}
use Rattle.std.proofs.lemmas.Grind.{common_steps}
use Rattle.mask.specs.Logic.{and}
use Rattle.machine.specs.Lassos.{from_start, is_fair, is_play}
use Rattle.brute.proofs.lassos.is_play.Goals as goal

pub returns-then-is_fair : goal.returns-then-is_fair
unfolding is_play from_start is_fair and
returns-then-is_fair c = grind (arith, common_steps)

pub returns-else-is_fair : goal.returns-else-is_fair
unfolding is_play from_start is_fair and
returns-else-is_fair c = grind (arith, common_steps)
