-- The lent table is tested, then the pair.
use Rattle.std.proofs.Common.{sym, ◌∙◌}
use Rattle.machine.specs.RefusalsLaws.{buffer_short}
use Rattle.solver.specs.SolverLaws.{solve_short, solve_long}
use Rattle.solver.proofs.tests.Goals as goal

pub returns-then-room-lt-TABLE_ROOM : goal.returns-then-room-lt-TABLE_ROOM
returns-then-room-lt-TABLE_ROOM c = let x = c.args in sym (solve_short x.p x.room (buffer_short _ x.room c.if-room-lt-TABLE_ROOM.true))

pub returns : goal.returns
returns c = let x = c.args in c.pair_validity.ensures ∙ sym (solve_long x.p x.room c.if-room-lt-TABLE_ROOM.false)
