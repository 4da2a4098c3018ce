-- The rows of the states of a mask, joined one after another from the lowest state on.
use Rattle.std.specs.Prelude.{List, ◌≡◌, refl, ℕ, zero, suc, ◌^◌, ◌<◌, get_or}
use Rattle.std.proofs.Common.{arith, subst}
use Rattle.std.proofs.Math.Logic.{by_cases}
use Rattle.std.proofs.Math.Decide.{ℕ_discrete}
use Rattle.mask.specs.Bits.{has_bit, lowest_of, rest_of}
use Rattle.mask.specs.BitsLaws.{has_none}
use Rattle.mask.specs.Bounded.{count}
use Rattle.mask.specs.BoundedLaws.{count_none}
use Rattle.mask.specs.WalkLaws.{count_rest}

module _ (g : ℕ → ℕ → ℕ) (rows : List ℕ) where
  -- of the first k states
  unfoldable pub fold_first : ℕ → ℕ → ℕ → ℕ
  fold_first zero m v = v
  fold_first (suc k) m v = fold_first k (rest_of m) (g v (get_or rows (lowest_of 64 m) 0))

  unfoldable pub fold_rows : ℕ → ℕ → ℕ
  fold_rows m v = fold_first (count 64 (has_bit m)) m v

  pub fold_none : (v : ℕ) → fold_rows 0 v ≡ v
  unfolding fold_rows fold_first
  fold_none v = rw (count_none 64 (has_bit 0) (λ i l. has_none i)) refl

  pub fold_turn : {m : ℕ} (v : ℕ) → (m ≡ 0 → ⊥) → m < 2 ^ 64 → fold_rows m v ≡ fold_rows (rest_of m) (g v (get_or rows (lowest_of 64 m) 0))
  unfolding fold_rows fold_first
  fold_turn {m} v z h = rw (count_rest 64 m (omega arith) h) refl

  -- what each turn keeps, of what is joined and what is left, holds at the end
  pub fold_keeps : (I : ℕ → ℕ → Type 0) → ((v m : ℕ) → I v m → m < 2 ^ 64) → ((v m : ℕ) → (m ≡ 0 → ⊥) → I v m → I (g v (get_or rows (lowest_of 64 m) 0)) (rest_of m))
      → {v m : ℕ} → I v m → I (fold_rows m v) 0
  fold_keeps I small turn {v} {m} i = go (count 64 (has_bit m)) v m refl i
    where
      ended : (v m : ℕ) → m ≡ 0 → I v m → I (fold_rows m v) 0
      ended v m z i = rw (z, fold_none) (subst (λ (n : ℕ). I v n) z i)

      go : (k v m : ℕ) → count 64 (has_bit m) ≡ k → I v m → I (fold_rows m v) 0
      go zero v m e i = by_cases (ℕ_discrete m 0) (λ z. ended v m z i) (λ z. absurd (omega (arith, e, count_rest 64 m (omega arith) (small v m i))))
      go (suc k) v m e i = by_cases (ℕ_discrete m 0) (λ z. ended v m z i)
          (λ z. rw (fold_turn v z (small v m i)) (go k _ _ (omega (arith, e, count_rest 64 m (omega arith) (small v m i))) (turn v m z i)))
