use mathlib.Core.Path.{◌≡◌}
use Prim.Native.Nat.{ℕ, ◌<◌, ◌^◌}
use lib.ListN.{get_or}
use Rattle.mask.specs.Bounded.{some_in}
use Rattle.machine.specs.Step.{single_step, in_row, found}
use Rattle.machine.specs.PartnerLaws.{within}
use Rattle.machine.proofs.has_partner.Given as goal

abbrev pub invariant-loop-m : goal.invariant-loop-m
invariant-loop-m l = (l.m < 2 ^ 64) × (((present : ℕ) → found (single_step present l.moves (in_row l.matched l.row l.bound) (λ a. get_or l.row a 0)) ≡ some_in 64 l.m (within l.row l.bound)))

abbrev pub decreases-loop-m : goal.decreases-loop-m
decreases-loop-m l = l.m
