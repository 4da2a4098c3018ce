use Rattle.std.proofs.Common.{rules}
use Rattle.brute.specs.Families.{numbered_family}
use Rattle.comparison.specs.Turns.{families_tally, family_tally}
use Rattle.comparison.proofs.turns.Known.compare_families.Goals as goal

pub returns : goal.returns
unfolding families_tally
returns c = let k = c.args.self.now in c.total.ensures (λ x. family_tally k (numbered_family k.sections k.concretes c.args.row x)) (λ x t l e. search rules)
