use Rattle.std.specs.Prelude.{refl}
use Rattle.chain.specs.Walking.{ends}
use Rattle.chain.proofs.Walk.ends.Goals as goal

pub returns : goal.returns
unfolding ends
returns c = refl
