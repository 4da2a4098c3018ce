-- At the loop's head the states before this moment are written and the loop starts before it marked; a mark that is met is the rule's end.
use mathlib.Core.List.{List}
use mathlib.Core.Path.{sym, subst}
use Prim.Native.Nat.{ℕ, ◌*◌, ◌≤◌, ◌<◌}
use native.Mathlib.Omega.{arith}
use Rattle.std.specs.Prelude.{Option, None, Some}
use lib.ListN.{length, set, replicate, length-replicate, get_or-replicate}
use Rattle.player.specs.Given.{lent}
use Rattle.machine.specs.Player.{run_room}
use Rattle.player.specs.declared.Place.{Place}
use Rattle.player.specs.Places.{Playing, NotEnded}
use Rattle.player.specs.PlaceLaws.{state_lt}
use Rattle.player.specs.MarkLaws.{number_low}
use Rattle.player.specs.RunLaws.{run_said, rounds_low}
use Rattle.player.specs.PlayingLaws.{at_start, round_low, now_low, met, earlier_low, run_written, marked_on, unmarked_on, room, plays_on}
use Rattle.player.proofs.TabledPair.write_run.Goals as goal
use Rattle.player.proofs.TabledPair.write_run.Goals.{After-number_of-number, In-Some, At-loop-place, After-struct_known-in-loop-place-1, else-place-start, then-place-start+in_default}

pub loop-place-init : goal.loop-place-init
loop-place-init c =
    let x = c.args in
    let r = c.requires in
    let Begun : Place → Type 0 = λ at. Playing x.self.now.pair.now x.self.now.table.now (lent x.lasso.now) x.run.now x.run.now (replicate 448 None) at 0 in
    subst Begun (sym c.new-place.ensures)
    (at_start r.playable x.run.now (replicate 448 None) x.first r.first_value (length-replicate {A = Option ℕ} 448 None) (λ i h. get_or-replicate {A = Option ℕ} 448 i None None h))

-- what is known at the loop's head
round_small : (c : At-loop-place) → c.loop-place.place.round ≤ 448
round_small c = round_low c.requires.playable c.loop-place.invariant

pub step-next-requires-clause-round_bound : goal.step-next-requires-clause-round_bound
step-next-requires-clause-round_bound c = round_small (goal.at.step-next-requires-clause-round_bound c).At-loop-place

-- ---- a loop start: the number of its a and j, and the mark there
number_small : (c : After-number_of-number) → c.number_of-number.result < 448
number_small c = subst (λ (n : ℕ). n < 448) (sym c.number_of-number.ensures) (number_low _ _)

-- a mark that is met: the rule's end
pub returns-in-Some : goal.returns-in-Some
returns-in-Some c =
    let x = c.args in
    let l = lent x.lasso.now in
    let k = c.requires.playable in
    let h = c.loop-place.invariant in
    let e = met k h c.if-place-start.true c.number_of-number.result c.number_of-number.ensures _ c.in-Some.is in
    record { answer = run_said x.self.now.pair.now x.self.now.table.now l _ _ e.0 e.1; buffer = run_written k h c.if-place-start.true e.0 }

-- no mark, or no loop start: the marks are as the next turn wants them
abbrev Joined : Type 0
Joined = After-struct_known-in-loop-place-1

not_ended : (c : Joined) → let x = c.args in NotEnded x.self.now.pair.now x.self.now.table.now (lent x.lasso.now) c.if-place-start.marks c.loop-place.place
not_ended c =
    let x = c.args in
    let k = c.requires.playable in
    let h = c.loop-place.invariant in
    let Goes : List (Option ℕ) → Type 0 = λ m. NotEnded x.self.now.pair.now x.self.now.table.now (lent x.lasso.now) m c.loop-place.place in
    elim c.if-place-start.branch [
      | then-place-start+in_default w ↦
          let Marked : ℕ → Type 0 = λ n. Goes (set c.loop-place.marks w.number_of-number.result (Some n)) in
          subst Goes (sym w.marks-is) (subst Marked (omega arith) (marked_on k h w.if-place-start.true w.number_of-number.result w.number_of-number.ensures w.in_default.is))
      | else-place-start w ↦ subst Goes (sym w.marks-is) (unmarked_on k h w.if-place-start.false)
    ]

pub loop-place-preserved : goal.loop-place-preserved
loop-place-preserved c =
    plays_on c.requires.playable c.loop-place.invariant (not_ended c) c.requires.run_room_in_bounds c.step-next.result c.step-next.ensures

-- ---- no number overflows, and each index is in range
pub overflow_add-after : goal.overflow_add-after
overflow_add-after c = omega (arith, now_low c.requires.playable c.loop-place.invariant)

pub offset_bounds-marks-number : goal.offset_bounds-marks-number
offset_bounds-marks-number c = omega (arith, number_small (goal.at.offset_bounds-marks-number c).After-number_of-number)

pub bounds-marks-number : goal.bounds-marks-number
bounds-marks-number c = number_small (goal.at.bounds-marks-number c).After-number_of-number

-- the earlier round is before this one, and rounds are few
earlier_small : (c : In-Some) → c.in-Some.seen < c.loop-place.place.round
earlier_small c = earlier_low c.requires.playable c.loop-place.invariant c.if-place-start.true c.number_of-number.result c.number_of-number.ensures _ c.in-Some.is

turns_small : (c : In-Some) (x : ℕ) → x ≤ c.loop-place.place.round → x * length c.args.lasso.now.cycle.now ≤ run_room
turns_small c x h = let k = c.requires.playable in rounds_low k x (omega (arith, round_low k c.loop-place.invariant))

pub overflow_mul-result : goal.overflow_mul-result
overflow_mul-result c =
    let d : In-Some = (goal.at.overflow_mul-result c).In-Some in
    omega (arith, turns_small d d.in-Some.seen (omega (arith, earlier_small d)))

pub overflow_add-result : goal.overflow_add-result
overflow_add-result c =
    let d : In-Some = (goal.at.overflow_add-result c).In-Some in
    omega (arith, turns_small d d.in-Some.seen (omega (arith, earlier_small d)), c.requires.playable.good.short)

pub overflow_sub-result : goal.overflow_sub-result
overflow_sub-result c = omega (arith, earlier_small (goal.at.overflow_sub-result c).In-Some)

pub overflow_cast-marks : goal.overflow_cast-marks
overflow_cast-marks c = omega (arith, round_small (goal.at.overflow_cast-marks c).At-loop-place)

pub offset_bounds-marks-number-then-place-start : goal.offset_bounds-marks-number-then-place-start
offset_bounds-marks-number-then-place-start c = omega (arith, number_small (goal.at.offset_bounds-marks-number-then-place-start c).After-number_of-number)

pub bounds-marks-number-then-place-start : goal.bounds-marks-number-then-place-start
bounds-marks-number-then-place-start c = number_small (goal.at.bounds-marks-number-then-place-start c).After-number_of-number

has_room : (c : Joined) → c.loop-place.t < run_room
has_room c = room c.requires.playable c.loop-place.invariant (not_ended c)

pub overflow_cast-run : goal.overflow_cast-run
overflow_cast-run c = omega (arith, state_lt c.requires.playable c.loop-place.invariant.on, c.args.self.now.is_tabled.well.abstraction.states_high)

pub bounds-run-t : goal.bounds-run-t
bounds-run-t c = omega (arith, has_room c, c.loop-place.invariant.long, c.requires.run_room_in_bounds)

pub loop-place-smaller : goal.loop-place-smaller
loop-place-smaller c = omega (arith, has_room c)

pub bounds : goal.bounds
bounds c = number_small (goal.at.bounds c).After-number_of-number
