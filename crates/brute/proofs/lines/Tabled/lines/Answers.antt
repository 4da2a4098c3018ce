-- The three searches are nested as in the definition: section, then row, then state.
use Rattle.std.proofs.Common.{ap, arith, sym, ◌∙◌}
use Rattle.std.specs.Prelude.{unwrap_or, ℕ, ◌<◌}
use Rattle.mask.specs.Bounded.{first}
use Rattle.mask.specs.BoundedLaws.{below_at}
use Rattle.machine.specs.Machines.{n_c, sets_a}
use Rattle.std.specs.Prelude.{Option}
use Rattle.brute.specs.Lines.{row_fails}
use Rattle.brute.specs.TargetLaws.{below_le, lines_at_lem, lines_none}
use Rattle.brute.proofs.WellLaws.{well_of}
use Rattle.brute.proofs.lines.Tabled.lines.Goals as goal
use Rattle.brute.proofs.lines.Tabled.lines.Goals.{In-Some}

found : (c : In-Some) → let p = c.args.self.now.pair.now in c.in-Some.j < sets_a p
found c = let at = below_at (sets_a c.args.self.now.pair.now) _ (sym c.failing_section.ensures ∙ c.in-Some.is) in rw at.0 at.1

pub returns-in_default : goal.returns-in_default
returns-in_default c = let x = c.args in sym (lines_none x.self.now.pair.now x.self.now.table.now (sym c.in_default.is ∙ c.failing_section.ensures))

pub failing_row-requires : goal.failing_row-requires
failing_row-requires c = found c

pub failing_state-requires : goal.failing_state-requires
failing_state-requires c =
    let w = well_of c.args.self.now in
    (found (goal.at.failing_state-requires c).In-Some, omega (arith, w.concrete.states_high, c.unwrap_or-c.ensures ∙ ap (λ (o : Option ℕ). unwrap_or o 0) c.failing_row.ensures, below_le (n_c c.args.self.now.pair.now) (first (n_c c.args.self.now.pair.now) (row_fails c.args.self.now.pair.now c.args.self.now.table.now c.in-Some.j))))

pub overflow_add-result : goal.overflow_add-result
overflow_add-result c = let w = well_of c.args.self.now in omega (arith, w.abstraction.sets_high, found (goal.at.overflow_add-result c).In-Some)

pub returns : goal.returns
returns c =
    let x = c.args in
    sym (lines_at_lem x.self.now.pair.now x.self.now.table.now _ _ _ (sym c.in-Some.is ∙ c.failing_section.ensures)
    (c.unwrap_or-c.ensures ∙ ap (λ (o : Option ℕ). unwrap_or o 0) c.failing_row.ensures)
    (c.unwrap_or-a.ensures ∙ ap (λ (o : Option ℕ). unwrap_or o 0) c.failing_state.ensures))
