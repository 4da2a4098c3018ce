-- At the loop's head the rows are those of level l, and its pairs have their ranks; where a level is the one before, all ranks are there.
use mathlib.Core.Path.{◌≡◌, refl, sym, ap, ◌∙◌}
use Prim.Native.Nat.{ℕ, ◌*◌}
use native.Mathlib.Omega.{arith}
use Rattle.machine.specs.Machines.{sets_c, pairs}
use Rattle.machine.specs.WellFormedLaws.{well_pair, pairs_small}
use Rattle.solver.specs.RankRowsLaws.{ranked_none}
use Rattle.solver.specs.LevelLaws.{ranked_trans, ranked_self, ranked_at, levels_start, levels_stop, levels_out}
use Rattle.solver.proofs.Game.levels.Goals as goal
use Rattle.solver.proofs.Game.levels.Goals.{Start}

pub overflow_mul-l-end : goal.overflow_mul-l-end
overflow_mul-l-end c = omega (arith, pairs_small c.args.self.now.pair (well_pair c.args.self.now.pair c.args.self.now.prepared.well))

pub loop-l-init : goal.loop-l-init
loop-l-init c =
    ((refl, omega arith), record { rows_are = levels_start c.args.self.now.prepared c.requires.0; ranked = ranked_at (omega arith) (ranked_none c.args.self.now.pair (well_pair c.args.self.now.pair c.args.self.now.prepared.well) _ c.requires.0.only_matched c.requires.1) })

pub level-next-requires : goal.level-next-requires
level-next-requires c =
    (c.requires.0, (omega (arith, c.loop-l.invariant.0.0, c.loop-l-test.true), (c.loop-l.invariant.1.rows_are, ranked_self c.loop-l.invariant.1.ranked)))

pub shape_of-part-then-same_rows : goal.shape_of-part-then-same_rows
shape_of-part-then-same_rows c =
    c.level-next.ensures.1.bounded.long ∙ sym c.requires.1.long

pub returns-then-same_rows : goal.returns-then-same_rows
returns-then-same_rows c =
    let n = c.level-next.ensures in
    levels_stop c.args.self.now.prepared c.requires.0 (omega (arith, c.loop-l.invariant.0.0, c.loop-l-test.true)) c.loop-l.invariant.1.rows_are n.0 (sym c.same_rows.ensures ∙ c.if-same_rows.true)
    (ranked_trans c.loop-l.invariant.1.ranked n.1)

pub overflow_step-l : goal.overflow_step-l
overflow_step-l c =
    omega (arith, c.loop-l.invariant.0.0, c.loop-l-test.true, pairs_small c.args.self.now.pair (well_pair c.args.self.now.pair c.args.self.now.prepared.well))

pub loop-l-smaller : goal.loop-l-smaller
loop-l-smaller c = omega (arith, c.loop-l-test.true)

pub loop-l-preserved : goal.loop-l-preserved
loop-l-preserved c =
    let n = c.level-next.ensures in
    ((c.loop-l.invariant.0.0, omega (arith, c.loop-l-test.true)), record { rows_are = n.0; ranked = ranked_trans c.loop-l.invariant.1.ranked n.1 })

pub shape_of-part : goal.shape_of-part
shape_of-part c = c.loop-l.invariant.1.ranked.bounded.long ∙ sym c.requires.1.long

pub returns : goal.returns
returns c =
    let e : c.loop-l.l ≡ pairs c.args.self.now.pair = omega (arith, c.loop-l.invariant.0.0, c.loop-l.invariant.0.1, c.loop-l-test.false) in
    (levels_out c.args.self.now.prepared c.requires.0 e c.loop-l.invariant.1.rows_are, ranked_at (ap (λ (n : ℕ). n * sets_c c.args.self.now.pair) e) c.loop-l.invariant.1.ranked)
