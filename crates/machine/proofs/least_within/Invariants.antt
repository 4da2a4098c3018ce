use lib.Bits.{bit_and}
use Rattle.machine.specs.PartnerLaws.{Walked}
use Rattle.machine.proofs.least_within.Given as goal

abbrev pub invariant-loop-m : goal.invariant-loop-m
invariant-loop-m l = Walked l.row l.bound (bit_and l.moves l.matched) l.m l.best l.limit

abbrev pub decreases-loop-m : goal.decreases-loop-m
decreases-loop-m l = l.m
