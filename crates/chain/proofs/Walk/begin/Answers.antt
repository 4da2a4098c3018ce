use Rattle.std.specs.Prelude.{None}
use Rattle.std.proofs.Common.{ap}
use Rattle.machine.specs.declared.Machine.{Machine}
use Rattle.chain.specs.Walking.{begun}
use Rattle.chain.proofs.Walk.begin.Goals as goal

pub returns : goal.returns
unfolding begun
returns c = ap (λ (m : Machine). record { last = m; hidden = 0; place = 0; ended = None }) c.zero_machine.ensures
