-- The tests are made in document 01's order, and each return is the first that refuses; where none does, the run is the rule's.
use mathlib.Core.List.{List}
use mathlib.Core.Path.{◌≡◌, sym, ap, ◌∙◌}
use Prim.Native.Nat.{ℕ}
use native.Mathlib.Omega.{arith}
use Rattle.std.specs.Prelude.{Ok}
use Rattle.machine.specs.declared.Pair.{Pair}
use Rattle.machine.specs.declared.Checked.{Checked}
use Rattle.machine.specs.Refusals.{Answer, valid}
use Rattle.machine.specs.Machines.{starts}
use Rattle.machine.specs.WellFormedLaws.{well_valid, valid_is_well}
use Rattle.machine.specs.Lassos.{moment, given}
use Rattle.machine.specs.Step.{present_of, state_of}
use Rattle.machine.specs.Verdict.{verdict_of, check_verdict}
use Rattle.machine.specs.Player.{lasso_validity, start_partner}
use Rattle.machine.specs.PlayerLaws.{start_single, play_valid}
use Rattle.machine.proofs.Passing.{passed_on}
use Rattle.soundness.specs.PlayerLaws.{good_lasso, playable}
use Rattle.player.specs.AnswerLaws.{Passes, check_tells, stopped_by, short_run, check_stops, lasso_stops, start_stops, run_answer, run_buffer}
use Rattle.player.proofs.play.Goals as goal
use Rattle.player.proofs.play.Goals.{After-best_partner}

-- the check has refused nothing
passes : (p : Pair) (T : List ℕ) {a : Answer Checked} {v : Checked} → verdict_of a ≡ check_verdict p T → a ≡ Ok v → Passes p T
unfolding verdict_of
passes p T e o = check_tells p T (sym e ∙ ap verdict_of o)

pub returns-then-run-lt-RUN_ROOM : goal.returns-then-run-lt-RUN_ROOM
returns-then-run-lt-RUN_ROOM c =
    let x = c.args in
    let l = given x.stem.now x.cycle.now in
    let s = stopped_by x.p x.table.now l x.run.now _ (short_run x.p x.table.now l x.run.now c.if-run-lt-RUN_ROOM.true) in
    record { answer = s.0; buffer = s.1 }

pub returns-in_err-check_table : goal.returns-in_err-check_table
unfolding verdict_of
returns-in_err-check_table c =
    let x = c.args in
    let l = given x.stem.now x.cycle.now in
    let s = stopped_by x.p x.table.now l x.run.now _
    (check_stops x.p x.table.now l x.run.now c.if-run-lt-RUN_ROOM.false _ (sym c.check_table.ensures.verdict ∙ ap verdict_of c.in_err-check_table.was)) in
    record { answer = passed_on c.from_residual.ensures ∙ s.0; buffer = s.1 }

pub invariant_of-formed : goal.invariant_of-formed
invariant_of-formed c = record { well = valid_is_well c.args.p (passes c.args.p c.args.table.now c.check_table.ensures.verdict c.in_ok-check_table.was).pair }

pub returns-in_err-validity : goal.returns-in_err-validity
returns-in_err-validity c =
    let x = c.args in
    let l = given x.stem.now x.cycle.now in
    let s = stopped_by x.p x.table.now l x.run.now _
    (lasso_stops x.p x.table.now l x.run.now c.if-run-lt-RUN_ROOM.false (passes x.p x.table.now c.check_table.ensures.verdict c.in_ok-check_table.was) _
    (sym c.validity.ensures ∙ c.in_err-validity.was)) in
    record { answer = passed_on c.from_residual-in_err-validity.ensures ∙ s.0; buffer = s.1 }

-- 13 to 15 are not refused
pub state_at-c-requires : goal.state_at-c-requires
state_at-c-requires c =
    let x = c.args in
    omega (arith, (good_lasso x.p.concrete (given x.stem.now x.cycle.now) (sym c.validity.ensures ∙ c.in_ok-validity.was)).some_loop)

pub invariant_of-tabled : goal.invariant_of-tabled
invariant_of-tabled c =
    let x = c.args in
    let h = passes x.p x.table.now c.check_table.ensures.verdict c.in_ok-check_table.was in
    record {
      is_tabled = record { well = well_valid x.p h.pair; masks = c.matched_masks-matched.ensures; long = h.long; entries = λ i. (c.type_inv.table i).fits };
    }

pub best_partner-requires : goal.best_partner-requires
unfolding starts
best_partner-requires c =
    let x = c.args in
    let h = passes x.p x.table.now c.check_table.ensures.verdict c.in_ok-check_table.was in
    let w = well_valid x.p h.pair in
    let good = good_lasso x.p.concrete (given x.stem.now x.cycle.now) (sym c.validity.ensures ∙ c.in_ok-validity.was) in
    record {
      j_bound = (w.abstraction.sets_low, omega (arith, c.state_at-c.ensures, (good.right 0 (omega (arith, good.some_loop))).bound));
      appended = λ i h t. w.abstraction.start_bits i h t;
    }

-- where neither refuses
passing : (c : After-best_partner) → Passes c.args.p c.args.table.now
passing c = passes c.args.p c.args.table.now c.check_table.ensures.verdict c.in_ok-check_table.was

tested : (c : After-best_partner) → let x = c.args in lasso_validity x.p.concrete (given x.stem.now x.cycle.now) ≡ valid
tested c = sym c.validity.ensures ∙ c.in_ok-validity.was

-- the partner that is found is the definition's
first_is : (c : After-best_partner) → let x = c.args in c.best_partner.result ≡ start_partner x.p x.table.now (moment (given x.stem.now x.cycle.now) 0)
unfolding present_of
first_is c =
    let x = c.args in
    c.best_partner.ensures
    ∙ start_single x.p x.table.now _ _ (omega arith)
    ∙ ap (start_partner x.p x.table.now) c.state_at-c.ensures

pub returns-in_default : goal.returns-in_default
returns-in_default c =
    let b : After-best_partner = (goal.at.returns-in_default c).After-best_partner in
    let x = c.args in
    let l = given x.stem.now x.cycle.now in
    let s = stopped_by x.p x.table.now l x.run.now _
    (start_stops x.p x.table.now l x.run.now c.if-run-lt-RUN_ROOM.false (passing b) (tested b) (sym (first_is b) ∙ c.in_default.is)) in
    record { answer = s.0; buffer = s.1 }

-- nothing is refused
pub write_run-requires : goal.write_run-requires
write_run-requires c =
    let b : After-best_partner = (goal.at.write_run-requires c).After-best_partner in
    let x = c.args in
    let named = sym (first_is b) ∙ c.in-Some.is in
    let h = passing b in
    record {
      playable =
          playable x.p x.table.now (given x.stem.now x.cycle.now)
          (play_valid x.p x.table.now (given x.stem.now x.cycle.now) h.pair h.lines (tested b) c.in-Some.first named);
      first_value = sym (ap state_of named);
      run_room_in_bounds = c.if-run-lt-RUN_ROOM.false;
    }

pub returns : goal.returns
returns c =
    let b : After-best_partner = (goal.at.returns c).After-best_partner in
    let x = c.args in
    let l = given x.stem.now x.cycle.now in
    let said = c.write_run.ensures in
    let named = sym (first_is b) ∙ c.in-Some.is in
    record {
      answer = ap Ok said.answer ∙ run_answer x.p x.table.now l x.run.now c.if-run-lt-RUN_ROOM.false (passing b) (tested b) c.in-Some.first named;
      buffer = said.buffer ∙ run_buffer x.p x.table.now l x.run.now c.if-run-lt-RUN_ROOM.false (passing b) (tested b) c.in-Some.first named;
    }
