-- Section and state are the rule's beside the states at this position and the next, and the places ahead are the lasso's.
use mathlib.Core.Bool.{cond}
use mathlib.Core.Path.{sym, ap, subst, ◌∙◌}
use Prim.Native.Nat.{ℕ}
use native.Mathlib.Omega.{arith}
use lib.Dec.{eqb}
use Rattle.machine.specs.Machines.{sets_a, moves, successors, next}
use Rattle.machine.specs.Step.{present_of, single_step, state_of}
use Rattle.machine.specs.Table.{entry}
use Rattle.machine.specs.Lines.{non_blank}
use Rattle.machine.specs.PlayerLaws.{after_lt}
use Rattle.player.specs.declared.Place.{Place}
use Rattle.player.specs.Given.{lent}
use Rattle.player.specs.Places.{Placed}
use Rattle.player.specs.PlaceLaws.{onward_placed, beside_lt, state_lt, place_section_lt, steps_on}
use Rattle.player.proofs.Place.step.Goals as goal
use Rattle.player.proofs.Place.step.Goals.{After-section_after-j}

pub entry-e-requires : goal.entry-e-requires
entry-e-requires c =
    let r = c.requires in
    (place_section_lt r.playable r.on_play, (omega (arith, c.state_at.ensures, beside_lt r.playable r.on_play.placed), state_lt r.playable r.on_play))

-- the place ahead
ahead : (c : After-section_after-j) → Placed (lent c.args.lasso.now) c.onward-next.result
ahead c =
    let r = c.requires in
    subst (Placed (lent c.args.lasso.now)) (sym c.onward-next.ensures) (onward_placed r.on_play.placed r.playable.good.some_loop)

pub state_at-d-requires : goal.state_at-d-requires
state_at-d-requires c = (ahead (goal.at.state_at-d-requires c).After-section_after-j).within

pub offset_bounds-abstraction-self : goal.offset_bounds-abstraction-self
offset_bounds-abstraction-self c = let r = c.requires in omega (arith, state_lt r.playable r.on_play, c.args.tabled.now.is_tabled.well.abstraction.states_high)

pub bounds-abstraction-self : goal.bounds-abstraction-self
bounds-abstraction-self c = let r = c.requires in omega (arith, state_lt r.playable r.on_play, c.args.tabled.now.is_tabled.well.abstraction.states_high)

pub best_partner-found-requires : goal.best_partner-found-requires
unfolding moves successors
best_partner-found-requires c =
    let x = c.args in
    let p = x.tabled.now.pair.now in
    let r = c.requires in
    record {
      j_bound = (
        omega (arith, c.section_after-j.ensures, after_lt (sets_a p) x.self.j c.entry-e.result (place_section_lt r.playable r.on_play)),
        omega (arith, c.state_at-d.ensures, beside_lt r.playable (ahead (goal.at.best_partner-found-requires c).After-section_after-j)),
      );
      appended = λ i h t. x.tabled.now.is_tabled.well.abstraction.move_bits x.self.a i (state_lt r.playable r.on_play) h t;
    }

pub returns : goal.returns
unfolding successors present_of
returns c =
    let x = c.args in
    let p = x.tabled.now.pair.now in
    let T = x.tabled.now.table.now in
    let r = c.requires in
    let o = c.onward-next.ensures in
    let position = ap (λ (at : Place). at.position) o in
    let round = ap (λ (at : Place). at.round) o in
    let j = c.section_after-j.result in
    let m = successors p.abstraction x.self.a in
    let e = c.entry-e.ensures ∙ ap (λ (b : ℕ). entry p T x.self.j b x.self.a) c.state_at.ensures in
    let section = c.section_after-j.ensures ∙ ap (λ (e : ℕ). cond (eqb e 0) (next (sets_a p) x.self.j) x.self.j) e in
    let state =
    c.unwrap_or.ensures ∙ ap state_of (c.best_partner-found.ensures
    ∙ ap (λ (b : ℕ). single_step x.self.a m (non_blank p T j b) (entry p T j b)) c.state_at-d.ensures) in
    record { on = steps_on r.playable r.on_play _ position round section state; position = position; round = round }
