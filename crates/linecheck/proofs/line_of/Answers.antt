-- The cases are the definition's, in its order; the bound within set k is below the entry, so that no product or cast loses bits.
use mathlib.Core.Bool.{false}
use mathlib.Core.Path.{◌≡◌, sym, ◌∙◌}
use Prim.Native.Nat.{ℕ, ◌-◌, ◌*◌, ◌<◌}
use native.Mathlib.Omega.{arith}
use Rattle.mask.specs.Bits.{has_bit}
use Rattle.machine.specs.LevelLaws.{set_lt, level_low, level_below}
use Rattle.machine.specs.Ranks.{level_of}
use Rattle.linecheck.specs.BoundsLaws.{line_unmatched, line_above, line_goal, line_inside, line_outside}
use Rattle.linecheck.proofs.line_of.Goals as goal
use Rattle.linecheck.proofs.line_of.Goals.{then-not-has-via-then-not-has, then-not-has-via-else-not-has+then-most-e}

-- the bound within set k is below the entry
below : (m e level : ℕ) → (e ≡ 0 → ⊥) → level ≡ level_of m e → (0 < level) × ((level - 1) * m < e)
below m e level h l = (omega (arith, l, level_low m e), rw l (level_below m e h))

pub returns-then-not-has : goal.returns-then-not-has
returns-then-not-has c =
    let x = c.args in
    elim c.then-not-has.branch [
      | then-not-has-via-then-not-has w ↦
          let t : has_bit x.matched x.a ≡ false = sym c.has.ensures ∙ w.if-not-has.true in
          line_unmatched x.m x.most x.j x.next x.c x.a x.e x.matched x.concrete_sets.now x.abstract_set t
      | then-not-has-via-else-not-has+then-most-e w ↦
          line_above x.m x.most x.j x.next x.c x.a x.e x.matched x.concrete_sets.now x.abstract_set w.if-most-e.true
    ]

pub returns-then-e-eq0 : goal.returns-then-e-eq0
returns-then-e-eq0 c =
    let x = c.args in
    c.then_some.ensures ∙ line_goal x.m x.most x.j x.next x.c x.a x.e x.matched x.concrete_sets.now x.abstract_set (sym c.has.ensures ∙ c.if-not-has.false) (omega arith) (omega arith)
    c.has-then-e-eq0.result c.has-then-e-eq0.ensures

pub overflow_sub-below : goal.overflow_sub-below
overflow_sub-below c = omega (arith, below c.args.m c.args.e _ c.if-e-eq0.false c.level_of-rank.ensures.0)

pub overflow_mul-below : goal.overflow_mul-below
overflow_mul-below c = omega (arith, below c.args.m c.args.e _ c.if-e-eq0.false c.level_of-rank.ensures.0)

pub overflow_cast-lower : goal.overflow_cast-lower
overflow_cast-lower c = omega (arith, below c.args.m c.args.e _ c.if-e-eq0.false c.level_of-rank.ensures.0)

pub offset_bounds-concrete_sets-k : goal.offset_bounds-concrete_sets-k
offset_bounds-concrete_sets-k c = omega (arith, c.level_of-rank.ensures.1, set_lt c.args.m c.args.e (omega arith))

pub bounds-concrete_sets-k : goal.bounds-concrete_sets-k
bounds-concrete_sets-k c = omega (arith, c.level_of-rank.ensures.1, set_lt c.args.m c.args.e (omega arith))

pub returns-then-inside : goal.returns-then-inside
returns-then-inside c =
    let x = c.args in
    line_inside x.m x.most x.j x.next x.c x.a x.e x.matched x.concrete_sets.now x.abstract_set (sym c.has.ensures ∙ c.if-not-has.false) (omega arith) c.if-e-eq0.false
    c.level_of-rank.result.level c.level_of-rank.result.set c.level_of-rank.ensures.0 c.level_of-rank.ensures.1 (sym c.has-inside.ensures ∙ c.if-inside.true)

pub returns-else-inside : goal.returns-else-inside
returns-else-inside c =
    let x = c.args in
    line_outside x.m x.most x.j x.next x.c x.a x.e x.matched x.concrete_sets.now x.abstract_set (sym c.has.ensures ∙ c.if-not-has.false) (omega arith) c.if-e-eq0.false
    c.level_of-rank.result.level c.level_of-rank.result.set c.level_of-rank.ensures.0 c.level_of-rank.ensures.1 (sym c.has-inside.ensures ∙ c.if-inside.false)
