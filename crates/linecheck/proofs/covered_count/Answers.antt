-- What is found so far is the count of the entries passed.
use Rattle.std.proofs.Common.{arith, sym, ◌≡◌, ℕ, Bool, List, length, get_or, eqb, add-one}
use borrow.Author.Tests.{eq-eqb, ne_eqb}
use Rattle.mask.specs.Logic.{not}
use Rattle.mask.specs.LogicLaws.{not_i, not_f}
use Rattle.mask.specs.BoundedLaws.{count_zero, count_hit, count_miss}
use Rattle.machine.specs.Table.{blank}
use Rattle.linecheck.proofs.covered_count.Goals as goal
use Rattle.linecheck.proofs.covered_count.Goals.{else-e, then-e}

abbrev covered : List ℕ → ℕ → Bool
covered T e = not (eqb (get_or T e 0) blank)

pub loop-e-init : goal.loop-e-init
loop-e-init c = (omega arith, sym (count_zero _))

pub loop-e-preserved : goal.loop-e-preserved
loop-e-preserved c =
    let l = c.loop-e in
    let q = covered c.args.entries.now in (
      elim c.if-e.branch [
        | then-e w ↦ omega arith
        | else-e w ↦ omega arith
      ],
      rw add-one (elim c.if-e.branch [
        | then-e w ↦ omega (arith, l.invariant.1, count_hit l.e-index q (not_i (ne_eqb _ _ w.if-e.true)))
        | else-e w ↦ omega (arith, l.invariant.1, count_miss l.e-index q (not_f (eq-eqb _ _ w.if-e.false)))
      ]),
    )

pub returns : goal.returns
returns c = let e : c.loop-e.e-index ≡ length c.args.entries.now = omega arith in rw (← e) c.loop-e.invariant.1
