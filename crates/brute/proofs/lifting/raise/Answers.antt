use Rattle.brute.specs.LiftingLaws.{raised_blank, raised_more}
use Rattle.brute.proofs.lifting.raise.Goals as goal

pub returns-then-e-most : goal.returns-then-e-most
returns-then-e-most c = let x = c.args in raised_more x.most x.e c.if-e-most.true

pub returns-else-e-most : goal.returns-else-e-most
returns-else-e-most c = let x = c.args in raised_blank x.most x.e c.if-e-most.false
