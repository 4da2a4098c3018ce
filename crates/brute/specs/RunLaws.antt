-- Laws of lassos and runs as the plain reading meets them.
use Rattle.std.specs.Prelude.{Bool, false, cond, ◌≡◌, ◌+◌, ◌-◌, ◌<◌, ◌≤◌, ℕ, eqb, leb, length, ltb}
use Rattle.std.proofs.Common.{◌∙◌, sym, add-one, arith, eq-eqb, le-ltb, lt-ltb, ne_eqb}
use Rattle.std.proofs.Math.Decide.{ℕ_discrete}
use Rattle.std.proofs.Math.Logic.{by_cases}
use Rattle.std.proofs.Math.Path.{refl}
use Rattle.std.proofs.Math.ListN.{get_or-eq_default}
use Rattle.mask.specs.Bounded.{every}
use Rattle.mask.specs.BoundedLaws.{every_cong}
use Rattle.mask.specs.Logic.{and, not, or}
use Rattle.mask.specs.LogicLaws.{and_false_l, and_true_l}
use Rattle.machine.specs.Lassos.{Lasso, is_lasso, lasso_length, moment}
use Rattle.machine.specs.Machines.{moves, starts}
use Rattle.machine.specs.Player.{bad_step}
use Rattle.machine.specs.LassosLaws.{moment_round}
use Rattle.machine.specs.declared.Machine.{Machine}

-- of an empty loop there is 0 past the stem
pub moment_none : (l : Lasso) (t : ℕ) → length l.stem ≤ t → length l.loop ≡ 0 → moment l t ≡ 0
moment_none l t h e = moment_round l t h ∙ get_or-eq_default l.loop 0 (omega arith)

-- ---- a lasso, step by step
module _ (m : Machine) (l : Lasso) where
  pub lasso_empty : length l.loop ≡ 0 → is_lasso m l ≡ false
  unfolding is_lasso
  lasso_empty e = and_false_l _ (le-ltb 0 (length l.loop) (omega arith))

  pub lasso_each : 0 < length l.loop → every (lasso_length l) (λ t. and (ltb (moment l t) m.states) (moves m (moment l t) (moment l (t + 1)))) ≡ is_lasso m l
  unfolding is_lasso
  lasso_each h = every_cong _ _ _ (λ t k. rw add-one) ∙ sym (and_true_l _ (lt-ltb 0 _ h))

-- ---- 14 at position i, as code asks for it: s is the state there, the tests tell whether it is entered rightly and whether it is the last one
module _ (m : Machine) (l : Lasso) (i s : ℕ) (at : s ≡ moment l i) where
  pub bad_is : {entered last : Bool} → entered ≡ cond (eqb i 0) (starts m s) (moves m (moment l (i - 1)) s) → last ≡ eqb (i + 1) (lasso_length l)
      → bad_step m l i ≡ or (leb m.states s) (or (not entered) (and last (not (moves m s (moment l (i + 1))))))
  unfolding bad_step
  bad_is e f = rw (e, f, at, add-one) (by_cases (ℕ_discrete i 0)
      (λ z. rw (eq-eqb i 0 z, z) refl)
      (λ n. rw (ne_eqb i 0 n) refl))
