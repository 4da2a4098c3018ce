use Rattle.std.proofs.Common.{arith, eqb-true, rules, sym, tests, ◌∙◌}
use borrow.Author.Tests.{eqb-false}
use Rattle.std.specs.Prelude.{length, ltb, ◌+◌, ◌≡◌}
use Rattle.mask.specs.Logic.{and}
use Rattle.mask.specs.Bounded.{every}
use Rattle.mask.proofs.RangeLaws.{all_range}
use Rattle.machine.specs.Machines.{moves}
use Rattle.brute.specs.Given.{lent}
use Rattle.machine.specs.Lassos.{moment}
use Rattle.machine.specs.Lassos.{lasso_length}
use Rattle.brute.specs.RunLaws.{lasso_each, lasso_empty}
use Rattle.brute.proofs.lassos.Lasso.is_lasso.Goals as goal

pub returns-then-not-is_empty : goal.returns-then-not-is_empty
unfolding and
returns-then-not-is_empty c =
    let x = c.args in
    let l = lent x.self.now in
    let e : c.all.result ≡ every (lasso_length l) (λ t. and (ltb (moment l t) x.m.now.states) (moves x.m.now (moment l t) (moment l (t + 1)))) = all_range c.all.ensures.ran (search (rules, tests)) in
    let some : length x.self.now.cycle.now ≡ 0 → ⊥ = eqb-false _ 0 (sym c.is_empty.ensures ∙ c.if-not-is_empty.true) in
    e ∙ lasso_each x.m.now l (omega arith)

pub returns-else-not-is_empty : goal.returns-else-not-is_empty
returns-else-not-is_empty c = let x = c.args in rw c.if-not-is_empty.false (sym (lasso_empty x.m.now (lent x.self.now) (eqb-true _ 0 (sym c.is_empty.ensures ∙ c.if-not-is_empty.false))))
