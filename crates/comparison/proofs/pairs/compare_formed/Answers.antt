use Rattle.comparison.proofs.SizeLaws.{concretes_fit}
use Rattle.comparison.proofs.pairs.compare_formed.Goals as goal

pub overflow_cast-p : goal.overflow_cast-p
overflow_cast-p c = concretes_fit c.args.formed
