-- At the loop's head the pairs of all earlier sets have their rank; each set starts from the pairs whose entry lets them be in it, which hold it.
use mathlib.Core.Path.{◌≡◌, sym, ap, ◌∙◌}
use Prim.Native.Nat.{◌<◌}
use native.Mathlib.Omega.{arith}
use lib.ListN.{length}
use Rattle.machine.specs.Machines.{n_c, n_a}
use Rattle.machine.specs.Game.{level, x_over}
use Rattle.machine.specs.WellFormedLaws.{well_pair, pairs_small}
use Rattle.rows.specs.Rows.{rows_of, pairs_in}
use Rattle.rows.specs.Entries.{upto_rows}
use Rattle.rows.specs.WriteLaws.{upto_is, upto_long, write_entry_is}
use Rattle.solver.specs.LevelLaws.{made_start, made_turn, made_done, x_is}
use Rattle.solver.proofs.Game.level.Goals as goal
use Rattle.solver.proofs.Game.level.Goals.{After-largest-x, Start}

-- the level's number is small
few : (c : Start) → c.args.l < 4096
few c = omega (arith, c.requires.1.0, pairs_small c.args.self.now.pair (well_pair c.args.self.now.pair c.args.self.now.prepared.well))

pub overflow_add-l : goal.overflow_add-l
overflow_add-l c = omega (arith, few (goal.at.overflow_add-l c).Start)

pub level_bound-bound-requires : goal.level_bound-bound-requires
level_bound-bound-requires c = ((well_pair c.args.self.now.pair c.args.self.now.prepared.well).concrete.sets_high, omega (arith, few (goal.at.level_bound-bound-requires c).Start))

pub loop-k-init : goal.loop-k-init
loop-k-init c =
    (omega arith, made_start c.args.self.now.prepared c.requires.0 c.requires.1.0 c.requires.1.1.0 c.requires.1.1.1 c.join_rows-seen.ensures)

pub bounds-self-k : goal.bounds-self-k
bounds-self-k c = omega (arith, c.loop-k-test.true, (well_pair c.args.self.now.pair c.args.self.now.prepared.well).concrete.sets_high)

-- the pairs that the sets start from
start_is : (c : After-largest-x) →
    let x = c.args in
    c.upto-start.result ≡ upto_rows (n_c x.self.now.pair) (n_a x.self.now.pair) x.part.now c.level_bound-bound.result
start_is c =
    let w = well_pair c.args.self.now.pair c.args.self.now.prepared.well in
    c.upto-start.ensures ∙ upto_is _ _ _ _ w.concrete.states_high w.abstraction.states_high c.requires.1.1.1.bounded.long

-- what is made is X(l + 1, k + 1)
made : (c : After-largest-x) →
    let p = c.args.self.now.pair in
    let G = pairs_in p c.args.goals.now in
    c.largest-x.result ≡ rows_of (x_over p G (level p G c.args.l) c.loop-k.k)
made c =
    x_is c.args.self.now.prepared c.requires.0 c.requires.1.0 c.requires.1.1.0 c.requires.1.1.1 c.loop-k.k c.loop-k-test.true
    c.step_rows-steps.ensures c.join_rows-base.ensures c.level_bound-bound.ensures (start_is c)
    (c.largest-x.ensures (record { few = (well_pair c.args.self.now.pair c.args.self.now.prepared.well).concrete.states_high; long = ap length (start_is c) ∙ upto_long _ _ _ _; dependents_are = c.args.self.now.prepared.dependents_are; first_are = c.partner_rows-reached.ensures }))

pub rank_of-v-requires : goal.rank_of-v-requires
rank_of-v-requires c =
    let k = c.loop-k-test.true in
    ((well_pair c.args.self.now.pair c.args.self.now.prepared.well).concrete.sets_high, (omega (arith, few (goal.at.rank_of-v-requires c).Start, k, (well_pair c.args.self.now.pair c.args.self.now.prepared.well).concrete.sets_high), omega (arith, few (goal.at.rank_of-v-requires c).Start, k, (well_pair c.args.self.now.pair c.args.self.now.prepared.well).concrete.sets_high)))

pub overflow_step-k : goal.overflow_step-k
overflow_step-k c = omega (arith, c.loop-k-test.true, (well_pair c.args.self.now.pair c.args.self.now.prepared.well).concrete.sets_high)

pub loop-k-smaller : goal.loop-k-smaller
loop-k-smaller c = omega (arith, c.loop-k-test.true)

pub loop-k-preserved : goal.loop-k-preserved
loop-k-preserved c =
    let w = well_pair c.args.self.now.pair c.args.self.now.prepared.well in (
      omega (arith, c.loop-k-test.true),
      rw (c.join_rows-seen-in-loop-k.ensures, c.write_entry.ensures, write_entry_is _ _ _ _ _ _ w.concrete.states_high w.abstraction.states_high c.loop-k.invariant.1.ranked.bounded.long) (made_turn c.args.self.now.prepared c.requires.0 c.requires.1.0 c.requires.1.1.0 c.requires.1.1.1 c.loop-k-test.true (made (goal.at.loop-k-preserved c).After-largest-x) c.rank_of-v.ensures c.loop-k.invariant.1),
    )

pub shape_of-part : goal.shape_of-part
shape_of-part c = c.loop-k.invariant.1.ranked.bounded.long ∙ sym c.requires.1.1.1.bounded.long

pub returns : goal.returns
returns c =
    made_done c.args.self.now.prepared c.requires.0 c.requires.1.0 c.requires.1.1.0 c.requires.1.1.1 (omega (arith, c.loop-k.invariant.0, c.loop-k-test.false)) c.loop-k.invariant.1
