use mathlib.Core.Path.{refl}
use Rattle.rows.specs.Entries.{without}
use Rattle.rows.proofs.without.Goals as goal

pub returns : goal.returns
unfolding without
returns c = refl
