-- What is not well formed counts nothing; otherwise the lifted table is compared.
use Rattle.std.proofs.Common.{◌≡◌, ◌∙◌, true, not, ap, rules}
use Rattle.machine.specs.WellFormed.{well_formed}
use Rattle.comparison.specs.PairsLaws.{well_unless}
use Rattle.comparison.specs.Tallies.{nothing}
use Rattle.comparison.specs.Pairs.{unsolved_tally}
use Rattle.comparison.proofs.pairs.compare_unsolved.Goals as goal
use Rattle.comparison.proofs.pairs.compare_unsolved.Goals.{Else-is_err}

pub returns-then-is_err : goal.returns-then-is_err
unfolding unsolved_tally nothing
returns-then-is_err c = rw (well_unless _ _ c.validity.ensures c.is_err.ensures.negation, c.if-is_err.true) (search rules)

well : (c : Else-is_err) → well_formed c.args.p ≡ true
well c = well_unless _ _ c.validity.ensures c.is_err.ensures.negation ∙ ap not c.if-is_err.false

pub invariant_of-formed : goal.invariant_of-formed
invariant_of-formed c = record { well = well (goal.at.invariant_of-formed c).Else-is_err }

pub returns : goal.returns
unfolding unsolved_tally
returns c = rw (well (goal.at.returns c).Else-is_err, ← c.lift.ensures) c.compare_formed.ensures
