-- The invariant: the mask of the numbers passed, whatever test the calls are known to follow.
use Rattle.std.proofs.Common.{◌≡◌, ◌∙◌, min, refl, sym, arith, rules, add-one}
use Rattle.mask.specs.Tables.{mask_of}
use Rattle.mask.specs.TablesLaws.{mask_of_hit, mask_of_miss}
use Rattle.mask.proofs.those.Goals as goal
use Rattle.mask.proofs.those.Goals.{then-test, else-test}

pub loop-i-init : goal.loop-i-init
unfolding mask_of
loop-i-init g c = (omega arith, c.min-i-end.ensures, λ p k. refl)

pub loop-i-preserved : goal.loop-i-preserved
loop-i-preserved g c =
    let l = c.loop-i in (
      search rules,
      l.invariant.1,
      λ p k.
          let told = k l.i c.test.result (omega (arith, l.invariant.1)) c.test.ensures in
          elim c.if-test.branch [
            | then-test w ↦ rw (w.m-is, w.with-m.ensures, l.invariant.2 p k, add-one) (mask_of_hit l.i p (omega (arith, l.invariant.1)) (sym told ∙ w.if-test.true))
            | else-test w ↦ rw (w.m-is, l.invariant.2 p k, add-one) (mask_of_miss l.i p (sym told ∙ w.if-test.false))
          ],
    )

pub returns : goal.returns
returns g c = λ p k. let e : c.loop-i.i ≡ min c.args.n 64 = omega (arith, c.loop-i.invariant.0, c.loop-i.invariant.1) in rw (← e) (c.loop-i.invariant.2 p k)
