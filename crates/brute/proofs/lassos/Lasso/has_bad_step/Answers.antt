-- The three parts of 14: the state's number, how it is entered, and the closing step at the last position.
use Rattle.std.proofs.Common.{arith, eq-eqb, le-ltb, sym, ◌∙◌}
use borrow.Author.Tests.{ne_eqb}
use Rattle.std.proofs.lemmas.Grind.{common_steps}
use Rattle.std.specs.Prelude.{cond, eqb, ◌+◌, ◌-◌, ◌≡◌}
use Rattle.mask.specs.Logic.{and, not, or}
use Rattle.machine.specs.Machines.{moves, starts}
use Rattle.brute.specs.Given.{lent}
use Rattle.machine.specs.Lassos.{moment}
use Rattle.std.specs.Prelude.{leb}
use Rattle.machine.specs.Lassos.{lasso_length}
use Rattle.machine.specs.Player.{bad_step}
use Rattle.brute.specs.RunLaws.{bad_is}
use Rattle.brute.proofs.lassos.Lasso.has_bad_step.Goals.{then-i-length, else-i-length}
use Rattle.brute.proofs.lassos.Lasso.has_bad_step.Goals as goal
use Rattle.brute.proofs.lassos.Lasso.has_bad_step.Goals.{Joined-i-eq0, Joined-i-length, Joined-s-m}
use Rattle.brute.proofs.lassos.Lasso.has_bad_step.Goals.{else-i-eq0, else-i-length, then-i-eq0, then-i-length}

entered_is : (c : Joined-i-eq0) → let x = c.args in
    let l = lent x.self.now in
    c.if-i-eq0.entered ≡ cond (eqb x.i 0) (starts x.m.now c.moment_at-s.result) (moves x.m.now (moment l (x.i - 1)) c.moment_at-s.result)
entered_is c = elim c.if-i-eq0.branch [
  | then-i-eq0 w ↦ w.entered-is ∙ w.has_start-entered.ensures ∙ rw (eq-eqb _ 0 w.if-i-eq0.true)
  | else-i-eq0 w ↦ w.entered-is ∙ w.has_move-entered.ensures ∙ rw (ne_eqb _ 0 w.if-i-eq0.false, w.moment_at.ensures)
]

last_is : (c : Joined-i-length) → let x = c.args in c.if-i-length.is_last ≡ eqb (x.i + 1) (lasso_length (lent x.self.now))
last_is c = elim c.if-i-length.branch [
  | then-i-length w ↦ w.is_last-is
  | else-i-length w ↦ w.is_last-is ∙ le-ltb _ _ w.if-i-length.false ∙ sym (ne_eqb _ _ (λ e. omega arith))
]

told : (c : Joined-s-m) → let x = c.args in
    let l = lent x.self.now in
    bad_step x.m.now l x.i
    ≡ or (leb x.m.now.states c.moment_at-s.result) (or (not c.if-i-eq0.entered) (and c.if-i-length.is_last (not (moves x.m.now c.moment_at-s.result (moment l (x.i + 1))))))
told c =
    let x = c.args in
    bad_is x.m.now (lent x.self.now) x.i _ c.moment_at-s.ensures (entered_is (goal.at.Joined-s-m c).Joined-i-eq0) (last_is (goal.at.Joined-s-m c).Joined-i-length)

pub returns-then-not-entered : goal.returns-then-not-entered
unfolding or and not
returns-then-not-entered c = rw (told (goal.at.returns-then-not-entered c).Joined-s-m) (grind (arith, common_steps))

pub returns-then-is_last : goal.returns-then-is_last
unfolding or and not
returns-then-is_last c = rw (told (goal.at.returns-then-is_last c).Joined-s-m) (grind (arith, common_steps))

pub returns-else-is_last : goal.returns-else-is_last
unfolding or and not
returns-else-is_last c = rw (told (goal.at.returns-else-is_last c).Joined-s-m) (grind (arith, common_steps))
