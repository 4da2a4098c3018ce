-- A machine has 64 successor masks, so that a state past them has no successor.
use mathlib.Core.Path.{◌≡◌, sym, ◌∙◌}
use native.Mathlib.Omega.{arith}
use lib.ListN.{length}
use borrow.Author.Rules.{rules}
use borrow.Author.Tests.{le-ltb}
use Rattle.machine.specs.Machines.{successors, moves}
use Rattle.player.specs.LassoLaws.{moves_past}
use Rattle.player.proofs.moves_to.Goals as goal

pub returns-then-s-lt64 : goal.returns-then-s-lt64
unfolding moves successors
returns-then-s-lt64 c = c.has.ensures

pub returns-else-s-lt64 : goal.returns-else-s-lt64
returns-else-s-lt64 c =
    let x = c.args in
    let long : length x.m.now.successors ≡ 64 = search rules in
    le-ltb x.s 64 c.if-s-lt64.false ∙ sym (moves_past x.m.now x.s x.t (omega arith))
