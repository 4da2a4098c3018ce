-- Document 01, "The game": the step, and the single step that names a partner (document 02, No. 10).
use Rattle.std.specs.Prelude.{Bool, true, false, cond, List, ℕ, zero, suc, ◌+◌, ◌*◌, length, get_or, eqb, ltb, leb, None, Option, Some, unwrap_or}
use Rattle.mask.specs.Logic.{and}
use Rattle.mask.specs.Bits.{has_bit}
use Rattle.mask.specs.Bounded.{every_in, some_in}
use Rattle.machine.specs.declared.Pair.{Pair}
use Rattle.machine.specs.Machines.{successors, n_c, n_a}

-- "A pair steps into a set S if for each successor c' of c some successor a' of a has (c', a') in S." A set is given by its test.
unfoldable pub steps : Pair → (ℕ → ℕ → Bool) → ℕ → ℕ → Bool
steps p S c a = every_in (n_c p) (successors p.concrete c) (λ d. some_in (n_a p) (successors p.abstraction a) (S d))

-- whether state s is taken in place of the best state before it: of equal keys the lower number stays
unfoldable pub better : (ℕ → ℕ) → ℕ → Option ℕ → Bool
better key s (Some b) = ltb (key s) (key b)
better key s None = true

-- of the numbers below n that pass p, the one with the least key, the lowest of these
unfoldable pub least : ℕ → (ℕ → Bool) → (ℕ → ℕ) → Option ℕ
least zero p key = None
least (suc n) p key = let best = least n p key in cond (and (p n) (better key n best)) (Some n) best

-- of the states of the mask `moves`, the partner in a set S (given by its test beside c'), of least key; the lowest of these
unfoldable pub partner : ℕ → (ℕ → Bool) → (ℕ → ℕ) → Option ℕ
partner moves S key = least 64 (λ a. and (has_bit moves a) (S a)) key

-- Document 02, No. 10: "least entry, then the present score state if it is among them, then the lowest number". Of equal entries the present
-- state has the lower key.
unfoldable pub staying : ℕ → (ℕ → ℕ) → ℕ → ℕ
staying present entries a = 2 * entries a + cond (eqb a present) 0 1

-- the single step, in the abstract state `present`
unfoldable pub single_step : ℕ → ℕ → (ℕ → Bool) → (ℕ → ℕ) → Option ℕ
single_step present moves S entries = partner moves S (staying present entries)

-- the present state as a number: 64, which no state has, where there is none, before the first
unfoldable pub present_of : Option ℕ → ℕ
present_of (Some a) = a
present_of None = 64

-- "In a set without entries all count as equal."
abbrev pub alike : ℕ → ℕ
alike a = 0

-- a set given by entries with a bound: the matched states whose entry in the row is at most the bound
unfoldable pub in_row : ℕ → List ℕ → ℕ → ℕ → Bool
in_row matched row bound a = and (has_bit matched a) (and (ltb a (length row)) (leb (get_or row a 0) bound))

-- there is a partner
unfoldable pub found : Option ℕ → Bool
found (Some a) = true
found None = false

-- the partner's number, 0 where there is none
abbrev pub state_of : Option ℕ → ℕ
state_of o = unwrap_or o 0
