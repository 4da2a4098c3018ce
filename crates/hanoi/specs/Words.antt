-- Words of text, and lists of numbers that ascend.
use Rattle.std.specs.Prelude.{Bool, cond, ℕ, zero, suc}
use mathlib.Core.List.{List, [], ◌∷◌, ◌++◌, flat_map}
use Prim.Native.Char.{code}
use Prim.Native.String.{String, [] as no_text, ◌∷◌ as ◌then◌}
use Rattle.mask.specs.Bits.{has_bit}

-- the bytes of a quoted text of ASCII characters
abbrev pub ascii : String → List ℕ
ascii no_text = []
ascii (c then s) = code c ∷ ascii s

-- `count` numbers from `first` on, ascending
unfoldable pub numbers : ℕ → ℕ → List ℕ
numbers first zero = []
numbers first (suc count) = first ∷ numbers (suc first) count

-- 0 to n - 1
abbrev pub below : ℕ → List ℕ
below n = numbers 0 n

-- those of a list that pass a test, in their order (filter)
unfoldable pub chosen : (ℕ → Bool) → List ℕ → List ℕ
chosen p [] = []
chosen p (x ∷ l) = let later = chosen p l in cond (p x) (x ∷ later) later

-- the states of a mask, ascending; of a mask of sets, the sets. Document 01: "A mask is 64 bits wide; bit s means state s."
unfoldable pub states_of : ℕ → List ℕ
states_of mask = chosen (has_bit mask) (below 64)

-- each item of a list behind `between`
unfoldable pub spread : List ℕ → List (List ℕ) → List ℕ
spread between ws = flat_map (λ w. between ++ w) ws

-- items joined: `between` stands between two (intercalate)
unfoldable pub joined : List ℕ → List (List ℕ) → List ℕ
joined between [] = []
joined between (w ∷ ws) = w ++ spread between ws
