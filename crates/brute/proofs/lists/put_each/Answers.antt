-- The invariant: each place passed has what f gives for it.
use Rattle.std.proofs.Common.{arith}
use Rattle.brute.proofs.EachLaws.{each_turn}
use Rattle.brute.proofs.lists.put_each.Goals as goal

pub loop-i-preserved : goal.loop-i-preserved
loop-i-preserved g c = each_turn (goal.F-post g c.args.f) c.loop-i.out c.loop-i.i c.f.result (omega arith) c.f.ensures c.loop-i.invariant
