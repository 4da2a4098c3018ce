-- The invariant: folding what is left onto what is joined gives the whole fold, whatever function the calls are known to follow.
use Rattle.std.proofs.Common.{◌≡◌, ◌∙◌, ℕ, ap, ap₂, sym, arith, rules, get_or}
use Rattle.mask.specs.BitsLaws.{rest_lt}
use Rattle.rows.specs.Folds.{fold_rows, fold_none, fold_turn}
use Rattle.rows.specs.RowsLaws.{walk_index}
use Rattle.rows.proofs.fold_rows.Goals as goal

pub offset_bounds-rows-lowest : goal.offset_bounds-rows-lowest
offset_bounds-rows-lowest g c = omega (arith, walk_index c.lowest.result c.lowest.ensures c.loop-left-test.true c.loop-left.invariant.0)

pub bounds-rows-lowest : goal.bounds-rows-lowest
bounds-rows-lowest g c = walk_index c.lowest.result c.lowest.ensures c.loop-left-test.true c.loop-left.invariant.0

pub loop-left-smaller : goal.loop-left-smaller
loop-left-smaller g c = omega (arith, c.rest-left.ensures, rest_lt c.loop-left.left (omega arith))

pub loop-left-preserved : goal.loop-left-preserved
loop-left-preserved g c =
    let l = c.loop-left in (
      omega (arith, c.rest-left.ensures, rest_lt l.left (omega arith), l.invariant.0),
      omega arith,
      λ h k.
          let told : c.join-m.result ≡ h l.m (get_or c.args.rows.now c.lowest.result 0) = k l.m _ c.join-m.result l.invariant.1 (search rules) c.join-m.ensures in
          l.invariant.2 h k ∙ fold_turn h c.args.rows.now l.m c.loop-left-test.true l.invariant.0
          ∙ ap₂ (fold_rows h c.args.rows.now) (sym c.rest-left.ensures) (ap (λ (d : ℕ). h l.m (get_or c.args.rows.now d 0)) (sym c.lowest.ensures) ∙ sym told),
    )

pub returns : goal.returns
returns g c = λ h k.
    let l = c.loop-left in
    sym (l.invariant.2 h k ∙ ap (λ (n : ℕ). fold_rows h c.args.rows.now n l.m) c.loop-left-test.false ∙ fold_none h c.args.rows.now l.m)
