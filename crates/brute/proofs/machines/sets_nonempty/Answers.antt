-- The set is told, counted from 1, exactly where there is one.
use Rattle.std.proofs.Common.{ap, arith, le-ltb, lt-ltb, sym, ◌∙◌}
use Rattle.std.proofs.Math.Path.{refl}
use Rattle.std.specs.Prelude.{Err, ℕ, ◌<◌, ◌≡◌}
use Rattle.mask.specs.BoundedLaws.{below_at, below_past}
use Rattle.machine.specs.Refusals.{Tested}
use Rattle.machine.specs.WellFormed.{has_empty_set, lowest_empty_set, sets_validity}
use Rattle.machine.specs.declared.Refusal.TheVariants.{EmptySet}
use Rattle.brute.proofs.machines.sets_nonempty.Goals as goal
use Rattle.brute.proofs.machines.sets_nonempty.Goals.{In-Some}

told : (c : In-Some) → let m = c.args.m.now in (c.in-Some.k ≡ lowest_empty_set m.sets m.fairness) × (lowest_empty_set m.sets m.fairness < 8)
told c = below_at 8 _ (sym c.empty_set.ensures ∙ c.in-Some.is)

pub overflow_add-result : goal.overflow_add-result
overflow_add-result c = let t = told c in omega (arith, t.0, t.1)

pub returns-in-Some : goal.returns-in-Some
unfolding sets_validity has_empty_set
returns-in-Some c =
    let t = told c in
    rw (lt-ltb _ 8 t.1) (let refuse : ℕ → Tested = λ n. Err (EmptySet c.args.i n) in ap refuse (omega (arith, t.0)))

pub returns-in-None : goal.returns-in-None
unfolding sets_validity has_empty_set
returns-in-None c = rw (le-ltb _ 8 (below_past 8 _ (sym c.empty_set.ensures ∙ c.in-None.is))) refl
