use Rattle.brute.specs.Numbers.{numbered_pair}
use Rattle.brute.proofs.numbers.numbered_pair.Goals as goal

pub returns : goal.returns
unfolding numbered_pair
returns c = rw (c.numbered_machine.ensures, c.numbered_machine-2.ensures)
