-- The definitions of l and k, read of one less than the entry.
use mathlib.Core.Path.{refl}
use Rattle.machine.specs.Ranks.{level_of, set_of}
use Rattle.brute.proofs.lines.level_of.Goals as goal

pub returns : goal.returns
unfolding level_of set_of
returns c = refl
