-- The entry of the pair tells whether the section changes.
use mathlib.Core.Path.{◌∙◌, sym}
use native.Mathlib.Omega.{arith}
use borrow.Author.Tests.{eq-eqb, ne_eqb}
use Rattle.machine.specs.Player.{section_after}
use Rattle.brute.proofs.WellLaws.{well_of}
use Rattle.brute.proofs.lines.Tabled.section_after.Goals as goal

pub entry_at-requires : goal.entry_at-requires
entry_at-requires c = let w = well_of c.args.self.now in omega (arith, w.abstraction.sets_high)

pub returns-then-entry_at-eq0 : goal.returns-then-entry_at-eq0
unfolding section_after
returns-then-entry_at-eq0 c = c.next_section.ensures ∙ rw (eq-eqb _ 0 (sym c.entry_at.ensures ∙ c.if-entry_at-eq0.true))

pub returns-else-entry_at-eq0 : goal.returns-else-entry_at-eq0
unfolding section_after
returns-else-entry_at-eq0 c = rw (ne_eqb _ 0 (λ e. c.if-entry_at-eq0.false (c.entry_at.ensures ∙ e)))
