-- Laws of the step and of sections.
use Rattle.std.specs.Prelude.{Bool, true, ◌≡◌, ℕ, suc, ◌≤◌, ◌<◌}
use Rattle.std.proofs.Math.Logic.{by_cases}
use Rattle.std.proofs.Common.{sym, ◌∙◌, arith, lt-ltb, le-ltb}
use Rattle.std.proofs.Math.Decide.{dec_lt}
use Rattle.mask.specs.LogicLaws.{both}
use Rattle.mask.specs.BoundedLaws.{every_in_at, every_in_of, some_in_at, some_in_of}
use Rattle.machine.specs.declared.Pair.{Pair}
use Rattle.machine.specs.Machines.{moves, next, n_c, n_a}
use Rattle.machine.specs.Step.{steps}

-- ---- sections
pub next_wrap : (n j : ℕ) → n ≤ suc j → next n j ≡ 0
unfolding next
next_wrap n j h = rw (le-ltb (suc j) n h)

pub next_step : (n j : ℕ) → suc j < n → next n j ≡ suc j
unfolding next
next_step n j h = rw (lt-ltb (suc j) n h)

pub next_lt : (n j : ℕ) → j < n → next n j < n
next_lt n j h = by_cases (dec_lt (suc j) n) (λ l. rw (next_step n j l) l) (λ l. rw (next_wrap n j (omega arith)) (omega arith))

-- ---- the step, as a sentence
module _ (p : Pair) where
  abbrev pub Steps : (ℕ → ℕ → Bool) → ℕ → ℕ → Type 0
  Steps S c a = (d : ℕ) → d < n_c p → moves p.concrete c d ≡ true → (b : ℕ) × (b < n_a p) × (moves p.abstraction a b ≡ true) × (S d b ≡ true)

  pub steps_at : (S : ℕ → ℕ → Bool) (c a : ℕ) → steps p S c a ≡ true → Steps S c a
  unfolding steps moves
  steps_at S c a t d hd u = some_in_at (n_a p) _ (S d) (every_in_at (n_c p) _ _ t d hd u)

  pub steps_of_lem : (S : ℕ → ℕ → Bool) (c a : ℕ) → Steps S c a → steps p S c a ≡ true
  unfolding steps moves
  steps_of_lem S c a h =
      every_in_of (n_c p) _ _ (λ d hd u. let q = h d hd u in some_in_of (n_a p) _ (S d) q.0 q.1 q.2 q.3)

  -- a larger set is stepped into by whatever steps into a smaller one
  pub steps_mono : (S R : ℕ → ℕ → Bool) → ((d b : ℕ) → d < n_c p → b < n_a p → S d b ≡ true → R d b ≡ true)
      → (c a : ℕ) → steps p S c a ≡ true → steps p R c a ≡ true
  steps_mono S R h c a t =
      steps_of_lem R c a (λ d hd u. let q = steps_at S c a t d hd u in (q.0, q.1, q.2, h d q.0 hd q.1 q.3))

  pub steps_cong : (S R : ℕ → ℕ → Bool) → ((d b : ℕ) → d < n_c p → b < n_a p → S d b ≡ R d b) → (c a : ℕ) → steps p S c a ≡ steps p R c a
  steps_cong S R h c a =
      both _ _ (steps_mono S R (λ d b hd hb t. sym (h d b hd hb) ∙ t) c a) (steps_mono R S (λ d b hd hb t. h d b hd hb ∙ t) c a)
