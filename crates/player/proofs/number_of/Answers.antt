-- Each remainder is small, so that neither product nor sum overflows.
use mathlib.Core.Path.{refl}
use Rattle.player.specs.Places.{number_of}
use Rattle.player.proofs.number_of.Goals as goal

pub returns : goal.returns
unfolding number_of
returns c = refl
