use Rattle.comparison.proofs.SizeLaws.{abstractions_fit, concretes_fit, sections_fit}
use Rattle.comparison.proofs.turns.compare_turns.Goals as goal

pub overflow_cast-known : goal.overflow_cast-known
overflow_cast-known c = sections_fit c.args.formed

pub overflow_cast-known-2 : goal.overflow_cast-known-2
overflow_cast-known-2 c = concretes_fit c.args.formed

pub overflow_cast-known-3 : goal.overflow_cast-known-3
overflow_cast-known-3 c = abstractions_fit c.args.formed
