use Rattle.std.proofs.Common.{◌/◌, ◌%◌, rules, ◌∙◌}
use Rattle.comparison.specs.Lassos.{lassos_tally, shape_tally}
use Rattle.comparison.proofs.lassos.compare_lassos.Goals as goal

pub returns : goal.returns
unfolding lassos_tally
returns c = let x = c.args in c.total.ensures (λ k. shape_tally x.p x.table.now x.top (k / 3) (k % 3)) (λ k t l e. search rules) ∙ rw c.min-most.ensures
