use Rattle.std.proofs.Common.{◌≤◌, ◌+◌, ◌∙◌, arith, rules}
use Rattle.machine.specs.WellFormedLaws.{mul_bound}
use Rattle.comparison.specs.Lassos.{lasso_tally, numbered_lasso, shape_tally}
use Rattle.comparison.specs.LassosLaws.{power_is, power_small}
use Rattle.comparison.proofs.lassos.compare_shape.Goals as goal

pub pow-requires : goal.pow-requires
pow-requires c = let b = c.from-base.result + 1 in rw (power_is b c.args.shape.stem (omega arith)) (omega (arith, power_small b c.args.shape.stem (omega arith) (omega arith)))

pub pow-requires-2 : goal.pow-requires-2
pow-requires-2 c = let b = c.from-base.result + 1 in rw (power_is b c.args.shape.cycle (omega arith)) (omega (arith, power_small b c.args.shape.cycle (omega arith) (omega arith)))

pub overflow_mul-pow : goal.overflow_mul-pow
overflow_mul-pow c =
    let x = c.args.shape in
    let b = c.from-base.result + 1 in
    let s : c.pow.result ≤ 65536 = rw (c.pow.ensures, power_is b x.stem (omega arith)) (power_small b x.stem (omega arith) (omega arith)) in
    let q : c.pow-2.result ≤ 65536 = rw (c.pow-2.ensures, power_is b x.cycle (omega arith)) (power_small b x.cycle (omega arith) (omega arith)) in
    omega (arith, mul_bound c.pow.result c.pow-2.result 65536 65536 s q)

pub returns : goal.returns
unfolding shape_tally
returns c =
    let x = c.args in
    let h = x.shape in
    c.total.ensures (λ k. lasso_tally x.p x.table.now (numbered_lasso h.top h.stem h.cycle k)) (λ k t l e. search rules)
    ∙ rw (c.pow.ensures, c.pow-2.ensures, power_is _ h.stem (omega arith), power_is _ h.cycle (omega arith), c.from-base.ensures)
