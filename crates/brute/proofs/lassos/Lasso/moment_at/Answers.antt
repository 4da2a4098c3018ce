-- A moment lies in the stem or in the loop; of an empty loop the definition has 0.
use Rattle.std.proofs.Common.{eqb-true, sym, ◌∙◌}
use Rattle.brute.specs.Given.{lent}
use Rattle.machine.specs.LassosLaws.{moment_round, moment_stem}
use Rattle.brute.specs.RunLaws.{moment_none}
use Rattle.brute.proofs.lassos.Lasso.moment_at.Goals as goal

pub returns-then-t-self : goal.returns-then-t-self
returns-then-t-self c = let x = c.args in sym (moment_stem (lent x.self.now) x.t c.if-t-self.true)

pub returns-then-is_empty : goal.returns-then-is_empty
returns-then-is_empty c = let x = c.args in sym (moment_none (lent x.self.now) x.t c.if-t-self.false (eqb-true _ 0 (sym c.is_empty.ensures ∙ c.if-is_empty.true)))

pub returns : goal.returns
returns c = let x = c.args in sym (moment_round (lent x.self.now) x.t c.if-t-self.false)
