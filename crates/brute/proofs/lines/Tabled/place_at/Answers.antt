-- The invariant: the place at moment i.
use mathlib.Core.Path.{◌∙◌, ap}
use native.Mathlib.Numerals.{add-one}
use native.Mathlib.Omega.{arith}
use borrow.Author.Rules.{rules}
use Rattle.brute.specs.Given.{lent}
use Rattle.machine.specs.Player.{start_partner}
use Rattle.machine.specs.PlayerLaws.{start_single}
use Rattle.machine.specs.Step.{present_of}
use Rattle.brute.specs.Runs.{as_place}
use Rattle.brute.specs.ScanLaws.{Placed, place_next, place_start, placed}
use Rattle.brute.proofs.WellLaws.{well_of}
use Rattle.brute.proofs.lines.Tabled.place_at.Goals as goal
use Rattle.brute.proofs.lines.Tabled.place_at.Goals.{At-loop-i}

here : (c : At-loop-i) → Placed c.args.self.now.pair.now c.args.self.now.table.now (as_place c.loop-i.at)
here c =
    let x = c.args in
    let w = well_of x.self.now in
    rw c.loop-i.invariant.1 (placed x.self.now.pair.now x.self.now.table.now (lent x.lasso.now) w.abstraction.sets_low c.loop-i.i)

pub loop-i-init : goal.loop-i-init
unfolding present_of
loop-i-init c =
    let x = c.args in
    let l = lent x.lasso.now in
    (search rules, rw c.unwrap_or.ensures (place_start x.self.now.pair.now x.self.now.table.now l _ (c.least_partner-found.ensures ∙ start_single x.self.now.pair.now x.self.now.table.now _ _ (omega arith) ∙ ap (start_partner x.self.now.pair.now x.self.now.table.now) c.moment_at.ensures)))

pub step_to-at-requires : goal.step_to-at-requires
step_to-at-requires c = let h = here (goal.at.step_to-at-requires c).At-loop-i in omega (arith, c.moment_at-c.type_inv, c.moment_at-d.type_inv, h.state_in, h.section_in)

pub loop-i-preserved : goal.loop-i-preserved
loop-i-preserved c =
    let x = c.args in
    let T = x.self.now.table.now in
    let l = lent x.lasso.now in (
      search rules,
      rw add-one (c.step_to-at.ensures ∙ rw (c.moment_at-c.ensures, c.moment_at-d.ensures, add-one) (place_next x.self.now.pair.now T l c.loop-i.i (as_place c.loop-i.at) c.loop-i.invariant.1)),
    )
