-- The matched pairs as masks: what solver, check and player meet a row with.
use Rattle.std.specs.Prelude.{cond, List, ℕ, min, get_or, ltb}
use Rattle.mask.specs.Tables.{mask_of, table}
use Rattle.machine.specs.declared.Pair.{Pair}
use Rattle.machine.specs.Machines.{observation, same_observation, n_c, n_a}

-- the states below n, and below 64, whose observation is o in the bits that are not hidden
unfoldable pub same_mask : ℕ → ℕ → ℕ → List ℕ → ℕ
same_mask hidden o n observations = mask_of (min n 64) (λ a. same_observation hidden o (get_or observations a 0))

-- the mask of the abstract states that are matched with concrete state c; none for a number that is no state
unfoldable pub matched_row : Pair → ℕ → ℕ
matched_row p c = let row = same_mask p.hidden (observation p.concrete c) (n_a p) p.abstraction.observations in cond (ltb c (n_c p)) row 0

-- the masks of all of them
unfoldable pub matched_masks : Pair → List ℕ
matched_masks p = table 64 (matched_row p)
