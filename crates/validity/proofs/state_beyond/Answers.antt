-- A state within the count is tested for bits, and one past it for zeros in both entries.
use mathlib.Core.Path.{sym, ◌∙◌}
use borrow.Author.Tests.{lt-ltb, le-ltb, ne_eqb, eq-eqb}
use Rattle.mask.specs.LogicLaws.{or_l, or_false_l, not_i, not_f, not_is}
use Rattle.validity.proofs.state_beyond.Goals as goal

pub returns-then-s-states : goal.returns-then-s-states
returns-then-s-states c = simp (lt-ltb _ _ c.if-s-states.true) c.has_beyond.ensures

pub returns-then-observation-ne0 : goal.returns-then-observation-ne0
returns-then-observation-ne0 c = simp (le-ltb _ _ c.if-s-states.false) (sym (or_l _ (not_i (ne_eqb _ 0 c.if-observation-ne0.true))))

pub returns : goal.returns
returns c = simp (le-ltb _ _ c.if-s-states.false) (sym (or_false_l _ (not_f (eq-eqb _ 0 c.if-observation-ne0.false)) ∙ not_is _))
