-- At the loop's head no entry is above its pair's rank and each section that is not due has its ranks; each turn covers fewer entries, or has one
-- section less due.
use mathlib.Core.Path.{◌≡◌, refl, ap, ◌∙◌}
use Prim.Native.Nat.{◌^◌, ◌<◌, min}
use native.Mathlib.Nat.{mul-le-mul_right}
use native.Mathlib.Omega.{arith}
use Rattle.mask.specs.Bits.{has_bit}
use Rattle.mask.specs.BitsLaws.{lowest_set, rest_lt}
use Rattle.machine.specs.Machines.{sets_a}
use Rattle.machine.specs.Table.{covered_count}
use Rattle.machine.specs.WellFormedLaws.{well_pair}
use Rattle.rows.specs.LargestLaws.{weight_falls}
use Rattle.solver.specs.Sweeps.{Sweeping}
use Rattle.solver.specs.SweepLaws.{sweeping_same, sweeping_changed, sweeping_done, covered_falls, covered_stays}
use Rattle.solver.proofs.Game.sweeps.Goals as goal
use Rattle.solver.proofs.Game.sweeps.Goals.{After-lowest-i, After-with-due}

-- the section that is taken is one of the machines'
low : (c : After-lowest-i) → c.lowest-i.result < sets_a c.args.self.now.pair
low c =
    let d = c.loop-due.invariant in
    d.low c.lowest-i.result (ap (has_bit c.loop-due.due) c.lowest-i.ensures ∙ lowest_set 64 c.loop-due.due (omega (arith, c.loop-due-test.true)) d.small)

pub loop-due-init : goal.loop-due-init
loop-due-init c =
    let e : min (sets_a c.args.self.now.pair) 64 ≡ sets_a c.args.self.now.pair = omega (arith, (well_pair c.args.self.now.pair c.args.self.now.prepared.well).abstraction.sets_high) in
    rw (c.full-due.ensures, e) c.requires

pub overflow_sub-j : goal.overflow_sub-j
overflow_sub-j c = (well_pair c.args.self.now.pair c.args.self.now.prepared.well).abstraction.sets_low

pub overflow_sub-j-in-loop-due : goal.overflow_sub-j-in-loop-due
overflow_sub-j-in-loop-due c = omega (arith, low (goal.at.overflow_sub-j-in-loop-due c).After-lowest-i)

pub renew-requires : goal.renew-requires
renew-requires c =
    let d = c.loop-due.invariant in
    record { room = d.room; section = omega (arith, low (goal.at.renew-requires c).After-lowest-i); bounded = d.bounded }

changed : (c : After-with-due) → c.lowest-i.result < sets_a c.args.self.now.pair → Sweeping c.args.self.now.pair c.args.table.now c.with-due.result c.renew.new.table
changed c h =
    rw (c.with-due.ensures, c.next_section.ensures, c.rest-due.ensures)
    (sweeping_changed c.args.self.now.pair (well_pair c.args.self.now.pair c.args.self.now.prepared.well) c.loop-due.invariant (omega (arith, h)) c.renew.ensures c.lowest-i.ensures c.loop-due-test.true refl)

pub loop-due-smaller-then-renew : goal.loop-due-smaller-then-renew
loop-due-smaller-then-renew c =
    weight_falls (covered_count c.args.self.now.pair c.loop-due.table) _ c.loop-due.due _
    (covered_falls c.args.self.now.pair (well_pair c.args.self.now.pair c.args.self.now.prepared.well) c.loop-due.invariant (omega (arith, low (goal.at.loop-due-smaller-then-renew c).After-lowest-i)) c.renew.ensures c.if-renew.true) (changed (goal.at.loop-due-smaller-then-renew c).After-with-due (low (goal.at.loop-due-smaller-then-renew c).After-lowest-i)).small

pub loop-due-preserved-then-renew : goal.loop-due-preserved-then-renew
loop-due-preserved-then-renew c = changed (goal.at.loop-due-preserved-then-renew c).After-with-due (low (goal.at.loop-due-preserved-then-renew c).After-lowest-i)

pub loop-due-smaller : goal.loop-due-smaller
loop-due-smaller c =
    let stays = mul-le-mul_right (2 ^ 64) (covered_stays c.args.self.now.pair (well_pair c.args.self.now.pair c.args.self.now.prepared.well) c.loop-due.invariant (omega (arith, low (goal.at.loop-due-smaller c).After-lowest-i)) c.renew.ensures) in
    omega (arith, stays, c.rest-due.ensures, rest_lt c.loop-due.due (omega (arith, c.loop-due-test.true)))

pub loop-due-preserved : goal.loop-due-preserved
loop-due-preserved c =
    rw c.rest-due.ensures (sweeping_same c.args.self.now.pair (well_pair c.args.self.now.pair c.args.self.now.prepared.well) c.loop-due.invariant (omega (arith, low (goal.at.loop-due-preserved c).After-lowest-i)) c.renew.ensures c.lowest-i.ensures c.loop-due-test.true refl c.if-renew.false)

pub shape_of-table : goal.shape_of-table
shape_of-table c = c.loop-due.invariant.long

pub returns : goal.returns
returns c = sweeping_done c.args.self.now.pair (well_pair c.args.self.now.pair c.args.self.now.prepared.well) c.loop-due-test.false c.loop-due.invariant
