use Rattle.std.proofs.Common.{◌≡◌, get_or, eqb, ◌≤◌}
use Rattle.mask.specs.Logic.{not}
use Rattle.mask.specs.Bounded.{count}
use Rattle.machine.specs.Table.{blank}
use Rattle.linecheck.proofs.covered_count.Given as goal

abbrev pub invariant-loop-e : goal.invariant-loop-e
invariant-loop-e l = (l.found ≤ l.e-index) × (l.found ≡ count l.e-index (λ i. not (eqb (get_or l.entries i 0) blank)))
