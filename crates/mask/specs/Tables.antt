-- Masks and lists made from a test or a function.
use Rattle.std.specs.Prelude.{Bool, cond, List, [], ◌∷◌, ◌++◌, ℕ, zero, suc, ◌+◌, ◌^◌, drop}

-- the mask of the states below w that pass p
unfoldable pub mask_of : ℕ → (ℕ → Bool) → ℕ
mask_of zero p = 0
mask_of (suc w) p = cond (p w) (2 ^ w) 0 + mask_of w p

-- the list f 0, .., f (n - 1)
unfoldable pub table : {A : Type 0} → ℕ → (ℕ → A) → List A
table zero f = []
table (suc n) f = f 0 ∷ table n (λ i. f (suc i))

-- a list whose first n elements are g 0, .., g (n - 1), and whose others are those of l
abbrev pub front : ℕ → (ℕ → ℕ) → List ℕ → List ℕ
front n g l = table n g ++ drop n l
