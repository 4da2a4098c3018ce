-- The tests are made in the order of the definition; position i is entered rightly where neither of the first two holds.
use mathlib.Core.Bool.{not}
use mathlib.Core.Path.{sym, ap, ◌∙◌}
use native.Mathlib.Omega.{arith}
use borrow.Author.Tests.{ne_eqb}
use Rattle.machine.specs.Machines.{starts}
use Rattle.machine.specs.PlayerLaws.{Entered, bad_state, bad_start, good_start, bad_entry, good_entry, good_before, closing}
use Rattle.player.specs.Given.{lent}
use Rattle.player.specs.LassoLaws.{moment_closing}
use Rattle.player.proofs.Lasso.has_bad_step.Goals as goal
use Rattle.player.proofs.Lasso.has_bad_step.Goals.{After-moves_to-closes, else-i-eq0, then-i-eq0}

pub returns-then-m-s : goal.returns-then-m-s
returns-then-m-s c = bad_state _ _ _ _ c.state_at-s.ensures c.if-m-s.true

pub returns-then-not-is_entered : goal.returns-then-not-is_entered
unfolding starts
returns-then-not-is_entered c = elim c.if-i-eq0.branch [
  | then-i-eq0 w ↦ bad_start _ _ _ _ c.state_at-s.ensures w.if-i-eq0.true _ (w.is_entered-is ∙ w.has-is_entered.ensures) (ap not c.if-not-is_entered.true)
  | else-i-eq0 w ↦ bad_entry _ _ _ _ c.state_at-s.ensures w.if-i-eq0.false _ w.state_at.ensures _ (w.is_entered-is ∙ w.moves_to-is_entered.ensures) (ap not c.if-not-is_entered.true)
]

entered : (c : After-moves_to-closes) → let x = c.args in Entered x.m.now (lent x.self.now) x.i
unfolding starts
entered c = elim c.if-i-eq0.branch [
  | then-i-eq0 w ↦ good_start _ _ _ _ c.state_at-s.ensures w.if-i-eq0.true _ (w.is_entered-is ∙ w.has-is_entered.ensures) (ap not c.if-not-is_entered.false)
  | else-i-eq0 w ↦ good_entry _ _ _ _ c.state_at-s.ensures w.if-i-eq0.false _ w.state_at.ensures _ (w.is_entered-is ∙ w.moves_to-is_entered.ensures) (ap not c.if-not-is_entered.false)
]

pub returns-then-i-len : goal.returns-then-i-len
returns-then-i-len c =
    closing _ _ _ _ c.state_at-s.ensures c.if-m-s.false (entered (goal.at.returns-then-i-len c).After-moves_to-closes) (omega (arith, c.len.ensures))
    _ (c.state_at-2.ensures ∙ sym (moment_closing _ _ (omega (arith, c.len.ensures)))) _ c.moves_to-closes.ensures

pub returns-else-i-len : goal.returns-else-i-len
returns-else-i-len c =
    ne_eqb _ _ c.if-i-len.false
    ∙ good_before _ _ _ _ c.state_at-s.ensures c.if-m-s.false (entered (goal.at.returns-else-i-len c).After-moves_to-closes)
    (λ e. c.if-i-len.false (omega (arith, c.len.ensures)))
