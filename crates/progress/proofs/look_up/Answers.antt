-- The tests in their order decide; behind them the section and the states are in range.
use Rattle.std.proofs.Common.{◌≡◌, true, ◌≤◌, ◌<◌, sym, ap, ◌∙◌, arith}
use Rattle.std.specs.Prelude.{Ok}
use Rattle.machine.specs.Machines.{n_c, n_a, sets_a}
use Rattle.machine.specs.RefusalsLaws.{then_answer}
use Rattle.machine.specs.WellFormed.{well_formed}
use Rattle.machine.specs.WellFormedLaws.{valid_is_well}
use Rattle.machine.specs.EmptySetsLaws.{nonempty_at}
use Rattle.machine.proofs.Passing.{passed_on}
use Rattle.progress.specs.TurnsLaws.{tests_told, range_at, looked_refused, looked_up}
use Rattle.progress.proofs.look_up.Goals as goal
use Rattle.progress.proofs.look_up.Goals.{In_ok-and}

-- behind them the machines are well formed, and the section and the states are in range
passed : (c : In_ok-and) → let x = c.args in
    (well_formed x.p ≡ true) × (((1 ≤ x.section) × (x.section ≤ sets_a x.p)) × ((x.c < n_c x.p) × (x.a < n_a x.p)))
passed c =
    let x = c.args in
    let t = then_answer _ _ (tests_told c.pair_validity-machines.ensures c.range_validity-range.ensures c.and.ensures ∙ c.in_ok-and.was) in
    (valid_is_well x.p (nonempty_at x.p t.0).0, range_at x.p x.section x.c x.a t.1)

pub returns-in_err-and : goal.returns-in_err-and
returns-in_err-and c =
    let x = c.args in
    passed_on c.from_residual.ensures
    ∙ sym (looked_refused x.p x.section x.c x.a x.family.now (tests_told c.pair_validity-machines.ensures c.range_validity-range.ensures c.and.ensures ∙ c.in_err-and.was))

pub overflow_sub-section : goal.overflow_sub-section
overflow_sub-section c = omega (arith, (passed (goal.at.overflow_sub-section c).In_ok-and).1.0)

pub invariant_of-formed : goal.invariant_of-formed
invariant_of-formed c = record { well = (passed (goal.at.invariant_of-formed c).In_ok-and).0 }

pub still_in-requires : goal.still_in-requires
still_in-requires c = let q = passed (goal.at.still_in-requires c).In_ok-and in (omega (arith, q.1.0), (q.1.1.0, q.1.1.1))

pub returns : goal.returns
returns c =
    let x = c.args in
    ap Ok c.still_in.ensures
    ∙ sym (looked_up x.p x.section x.c x.a x.family.now (tests_told c.pair_validity-machines.ensures c.range_validity-range.ensures c.and.ensures ∙ c.in_ok-and.was))
