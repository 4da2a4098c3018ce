-- Laws of lassos: the state at a moment, and what the test of a lasso asks at each.
use Rattle.std.specs.Prelude.{true, ◌≡◌, ℕ, suc, ◌+◌, ◌-◌, ◌%◌, ◌≤◌, ◌<◌, length, get_or}
use Rattle.std.proofs.Common.{ap, ◌∙◌, mod-eq_of_lt, arith}
use borrow.Author.Tests.{ltb-true, lt-ltb, le-ltb}
use Rattle.mask.specs.LogicLaws.{and_l, and_r, and_i}
use Rattle.mask.specs.BoundedLaws.{every_at, every_of}
use Rattle.machine.specs.declared.Machine.{Machine}
use Rattle.machine.specs.Machines.{moves}
use Rattle.machine.specs.Lassos.{Lasso, lasso_length, moment, is_lasso}

module _ (l : Lasso) where
  pub moment_stem : (t : ℕ) → t < length l.stem → moment l t ≡ get_or l.stem t 0
  unfolding moment
  moment_stem t h = rw (lt-ltb t (length l.stem) h)

  pub moment_round : (t : ℕ) → length l.stem ≤ t → moment l t ≡ get_or l.loop ((t - length l.stem) % length l.loop) 0
  unfolding moment
  moment_round t h = rw (le-ltb t (length l.stem) h)

  -- the loop's first round
  pub moment_loop : (i : ℕ) → i < length l.loop → moment l (length l.stem + i) ≡ get_or l.loop i 0
  moment_loop i h =
      let e : length l.stem + i - length l.stem ≡ i = omega arith in
      moment_round (length l.stem + i) (omega arith) ∙ ap (λ (x : ℕ). get_or l.loop x 0) (rw e (mod-eq_of_lt h))

module _ (m : Machine) (l : Lasso) where
  -- the state at moment t is one of the machine's, and moves to the next
  abbrev pub Goes : ℕ → Type 0
  Goes t = (moment l t < m.states) × (moves m (moment l t) (moment l (suc t)) ≡ true)

  pub lasso_loop : is_lasso m l ≡ true → 0 < length l.loop
  unfolding is_lasso
  lasso_loop h = ltb-true _ _ (and_l _ _ h)

  pub lasso_goes : is_lasso m l ≡ true → (t : ℕ) → t < lasso_length l → Goes t
  unfolding is_lasso
  lasso_goes h t b =
      let x = every_at (lasso_length l) _ (and_r _ _ h) t b in
      (ltb-true _ _ (and_l _ _ x), and_r _ _ x)

  pub lasso_of_lem : 0 < length l.loop → ((t : ℕ) → t < lasso_length l → Goes t) → is_lasso m l ≡ true
  unfolding is_lasso
  lasso_of_lem h f = and_i (lt-ltb 0 (length l.loop) h) (every_of (lasso_length l) _ (λ t b. let x = f t b in and_i (lt-ltb _ _ x.0) x.1))
