-- The set is told, counted from 1, exactly where there is one.
use mathlib.Core.Path.{◌≡◌, refl, sym, ap, ◌∙◌}
use Prim.Native.Nat.{ℕ, ◌<◌}
use native.Mathlib.Omega.{arith}
use borrow.Author.Tests.{lt-ltb, le-ltb}
use Rattle.std.specs.Prelude.{Err}
use Rattle.mask.specs.BoundedLaws.{below_at, below_past}
use Rattle.machine.specs.Refusals.{Tested}
use Rattle.machine.specs.declared.Refusal.TheVariants.{EmptySet}
use Rattle.machine.specs.WellFormed.{lowest_empty_set, has_empty_set, sets_validity}
use Rattle.validity.proofs.sets_validity.Goals as goal
use Rattle.validity.proofs.sets_validity.Goals.{In-Some}

told : (c : In-Some) → let m = c.args.m in (c.in-Some.k ≡ lowest_empty_set m.sets m.fairness) × (lowest_empty_set m.sets m.fairness < 8)
told c = below_at 8 _ (sym c.empty_set.ensures ∙ c.in-Some.is)

pub overflow_add-result : goal.overflow_add-result
overflow_add-result c = let t = told c in omega (arith, t.0, t.1)

pub returns-in-Some : goal.returns-in-Some
unfolding sets_validity has_empty_set
returns-in-Some c =
    let t = told c in
    rw (lt-ltb _ 8 t.1) (let refuse : ℕ → Tested = λ n. Err (EmptySet c.args.index n) in ap refuse (omega (arith, t.0)))

pub returns-in-None : goal.returns-in-None
unfolding sets_validity has_empty_set
returns-in-None c = rw (le-ltb _ 8 (below_past 8 _ (sym c.empty_set.ensures ∙ c.in-None.is))) refl
