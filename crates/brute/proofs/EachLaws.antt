-- What `put_each` leaves: P is what is promised of each place. A turn puts one place more, and in the end the list is a table.
use Rattle.std.specs.Prelude.{length, set, ◌≡◌, ◌+◌, ◌<◌, ◌≤◌, ℕ, List, ◌++◌, drop, take}
use Rattle.std.specs.List.{HoldsAt}
use Rattle.std.proofs.Common.{arith, subst, sym, ap, ◌∙◌}
use Rattle.std.proofs.Math.Decide.{ℕ_discrete}
use Rattle.std.proofs.Math.Logic.{by_cases}
use Rattle.std.proofs.lemmas.List.{get_or-set_other, get_or-set_same, length-take-le}
use Rattle.mask.specs.Tables.{front, table}
use Rattle.brute.specs.Each.{IsEach}
use Rattle.mask.specs.TablesLaws.{fill_done}

pub each_turn : {A : Type 0} (P : ℕ → A → Type 0) (xs : List A) (i : ℕ) (v : A) → i < length xs → P i v
    → ((k : ℕ) → k < i → HoldsAt (P k) xs k) → (k : ℕ) → k < i + 1 → HoldsAt (P k) (set xs i v) k
each_turn P xs i v h p held k b d = by_cases (ℕ_discrete k i)
    (λ e. rw e (subst (P i) (sym (get_or-set_same xs i v d h)) p))
    (λ n. subst (P k) (sym (get_or-set_other xs i k v d n)) (held k (omega arith) d))

module _ {P : ℕ → ℕ → Type 0} {xs : List ℕ} (t : ℕ → ℕ) where
  pub each_table : {n : ℕ} → IsEach P xs n → ((i y : ℕ) → P i y → y ≡ t i) → xs ≡ table n t
  each_table {n} h told = fill_done 0 n xs t h.long (λ k l. told k _ (h.each k l 0))

  -- the first n elements of a longer list
  pub each_front : (L : List ℕ) (n : ℕ) → n ≤ length L → IsEach P xs (length (take n L)) → ((i y : ℕ) → P i y → y ≡ t i) → xs ++ drop n L ≡ front n t L
  each_front L n b h told = ap (λ (z : List ℕ). z ++ drop n L) (each_table h told ∙ ap (λ (k : ℕ). table k t) (length-take-le n L b))
