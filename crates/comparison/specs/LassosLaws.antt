-- Laws of the player's comparison.
use Rattle.std.specs.Prelude.{◌≡◌, ℕ, zero, suc, ◌+◌, ◌*◌, ◌^◌, ◌≤◌, refl, Bool, List, length, take, drop, slice_index, nat_eq}
use Rattle.std.proofs.Common.{◌∙◌, le-leb, arith}
use native.Mathlib.Nat.{pow-suc, one-mul}
use native.Mathlib.Numerals.{unary_clauses}
use Rattle.std.proofs.Math.Path.{ap}
use Rattle.mask.specs.Bounded.{every}
use Rattle.mask.specs.Logic.{and}
use Rattle.mask.specs.LogicLaws.{and_true_l}
use Rattle.machine.specs.declared.Pair.{Pair}
use Rattle.machine.specs.WellFormed.{well_formed}
use Rattle.machine.specs.WellFormedLaws.{mul_bound}
use Rattle.machine.specs.Machines.{observation, same_observation}
use Rattle.machine.specs.Lassos.{Lasso, moment, is_play, given}
use Rattle.machine.specs.Player.{place_at}
use Rattle.comparison.specs.Lassos.{same_moments, run_fits, power}

-- a buffer B that is long enough, where the code's loop has n states
module _ (p : Pair) (T : List ℕ) (l : Lasso) (B : List ℕ) (s q n : ℕ) (h : s + q ≤ length B) (en : n ≡ q) where
  pub fits_all : {ruled played same : Bool} → ruled ≡ and (well_formed p) (every (s + q) (λ t. nat_eq (slice_index B t) (place_at p T l t).state))
      → played ≡ is_play p.abstraction (given (take s B) (take n (drop s B)))
      → same ≡ every (s + q) (λ t. same_observation p.hidden (observation p.concrete (moment l t)) (observation p.abstraction (moment (given (take s B) (take n (drop s B))) t)))
      → run_fits p T l B s q ≡ and ruled (and played same)
  unfolding run_fits same_moments
  fits_all er ep es = and_true_l _ (le-leb _ _ h) ∙ rw (er, ep, es, en)

-- how many numbers n digits have
pub power_is : (base n : ℕ) → n ≤ 2 → base ^ n ≡ power base n
unfolding power
power_is base zero h = simp unary_clauses refl
power_is base (suc zero) h = pow-suc base 0 ∙ simp unary_clauses (one-mul base)
power_is base (suc (suc zero)) h = pow-suc base 1 ∙ ap (λ n. n * base) (pow-suc base 0 ∙ simp unary_clauses (one-mul base))
power_is base (suc (suc (suc n))) h = absurd (omega arith)

pub power_small : (base n : ℕ) → base ≤ 256 → n ≤ 2 → power base n ≤ 65536
unfolding power
power_small base zero b h = omega arith
power_small base (suc zero) b h = omega arith
power_small base (suc (suc zero)) b h = mul_bound base base 256 256 b b
power_small base (suc (suc (suc n))) b h = absurd (omega arith)
