-- The section changes first, and the partner is looked for in the new one.
use native.Mathlib.Omega.{arith}
use Rattle.machine.specs.Step.{present_of}
use Rattle.brute.specs.Runs.{as_place}
use Rattle.machine.specs.PlayerLaws.{section_lt}
use Rattle.brute.specs.ScanLaws.{step_is}
use Rattle.brute.proofs.WellLaws.{well_of}
use Rattle.brute.proofs.lines.Tabled.step_to.Goals as goal

pub least_partner-found-requires : goal.least_partner-found-requires
least_partner-found-requires c =
    let x = c.args in
    let w = well_of c.args.self.now in
    omega (arith, c.section_after-j.ensures, section_lt x.self.now.pair.now x.self.now.table.now x.c (as_place x.at) c.requires.1.1.1, w.abstraction.sets_high)

pub returns : goal.returns
unfolding present_of
returns c =
    let x = c.args in
    rw c.unwrap_or.ensures (step_is x.self.now.pair.now x.self.now.table.now x.c x.d _ (as_place x.at) _ _ c.section_after-j.ensures c.successors_of-moves.ensures c.least_partner-found.ensures)
