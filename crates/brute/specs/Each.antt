-- Lists that are filled place by place.
use Rattle.std.specs.Prelude.{List, ℕ, ◌≡◌, ◌<◌, length}
use Rattle.std.specs.List.{HoldsAt}

-- the list has n elements, of which P holds, each at its place
pub record IsEach {A : Type 0} (P : ℕ → A → Type 0) (xs : List A) (n : ℕ) : Type 0 where
  pub long : length xs ≡ n
  pub each : (i : ℕ) → i < n → HoldsAt (P i) xs i
