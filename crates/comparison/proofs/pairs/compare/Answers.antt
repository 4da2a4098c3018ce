use Rattle.std.proofs.Common.{◌∙◌, ◌*◌, rules}
use Rattle.comparison.specs.Pairs.{row_tally, series_tally}
use Rattle.comparison.proofs.pairs.compare.Goals as goal

pub returns : goal.returns
unfolding series_tally
returns c = let s = c.args.s in c.total.ensures (λ i. row_tally s (i * s.concretes.step)) (λ i t l e. search rules) ∙ rw c.from.ensures
