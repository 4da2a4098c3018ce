-- The pigeonhole: more moments than values, so some value comes twice.
use Rattle.std.specs.Prelude.{cond, ◌≢◌, ◌≡◌, ℕ, zero, suc, ◌≤◌, ◌<◌, eqb}
use Rattle.std.proofs.Common.{⊎_elim, not-suc-le-zero, arith, eqb-true}
use Rattle.std.proofs.lemmas.Bool.{eqb-false}
use Rattle.mask.specs.LogicLaws.{cond_cases}
use Rattle.mask.specs.BoundedLaws.{find}

-- two of the moments 0, .., K at which f has the same value
abbrev pub Twice : ℕ → (ℕ → ℕ) → Type 0
Twice K f = (i : ℕ) × (j : ℕ) × (i < j) × (j ≤ K) × (f i ≡ f j)

-- the value k gives way to v, so that where v does not occur one value less is in use
pull : ℕ → ℕ → ℕ → ℕ
pull k v x = cond (eqb x k) v x

pull_lt : (k v x : ℕ) → x < suc k → v < suc k → x ≢ v → pull k v x < k
unfolding pull
pull_lt k v x hx hv d = cond_cases (eqb x k) (λ r. r < k) v x (λ t. omega (arith, eqb-true x k t)) (λ t. omega (arith, eqb-false x k t))

pull_inj : (k v x y : ℕ) → x ≢ v → y ≢ v → pull k v x ≡ pull k v y → x ≡ y
unfolding pull
pull_inj k v x y dx dy =
    cond_cases (eqb x k) (λ r. r ≡ pull k v y → x ≡ y) v x
    (λ t. cond_cases (eqb y k) (λ r. v ≡ r → x ≡ y) v y (λ u e. omega (arith, eqb-true x k t, eqb-true y k u)) (λ u e. omega arith))
    (λ t. cond_cases (eqb y k) (λ r. x ≡ r → x ≡ y) v y (λ u e. omega arith) (λ u e. e))

pub pigeonhole : (K : ℕ) (f : ℕ → ℕ) → ((i : ℕ) → i ≤ K → f i < K) → Twice K f
pigeonhole zero f h = absurd (not-suc-le-zero (h 0 (omega arith)))
pigeonhole (suc k) f h = ⊎_elim
    (λ q. (q.0, suc k, q.1, omega arith, eqb-true _ _ q.2))
    (λ none.
    let ne : (i : ℕ) → i ≤ k → f i ≢ f (suc k) = λ i l. eqb-false _ _ (none i (omega arith)) in
    let q = pigeonhole k (λ i. pull k (f (suc k)) (f i))
    (λ i l. pull_lt k (f (suc k)) (f i) (h i (omega arith)) (h (suc k) (omega arith)) (ne i l)) in
    let same = pull_inj k (f (suc k)) (f q.0) (f q.1) (ne q.0 (omega (arith, q.2, q.3))) (ne q.1 q.3) q.4 in
    (q.0, q.1, q.2, omega (arith, q.3), same))
    (find (suc k) (λ i. eqb (f i) (f (suc k))))
