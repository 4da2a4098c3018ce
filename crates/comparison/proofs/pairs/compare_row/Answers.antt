use Rattle.std.proofs.Common.{◌∙◌, ◌*◌, rules}
use Rattle.brute.specs.Numbers.{numbered_pair}
use Rattle.comparison.specs.Pairs.{row_tally, pair_tally}
use Rattle.comparison.proofs.pairs.compare_row.Goals as goal

pub returns : goal.returns
unfolding row_tally
returns c =
    let s = c.args.s in
    c.total.ensures (λ i. pair_tally s.trial (numbered_pair s.concrete s.abstraction s.hidden c.args.x (i * s.abstractions.step))) (λ i t l e. search rules) ∙ rw c.from.ensures
