-- Laws of the matched pairs as masks, and one turn of the loops that make them.
use Rattle.std.specs.Prelude.{Bool, List, ◌≡◌, ℕ, ◌^◌, ◌≤◌, ◌<◌, min, ltb, length, get_or}
use Rattle.std.proofs.Math.Path.{ap}
use Rattle.std.proofs.Common.{◌∙◌, arith, lt-ltb, le-ltb}
use Rattle.mask.specs.Logic.{and}
use Rattle.mask.specs.LogicLaws.{and_true_l}
use Rattle.mask.specs.Bits.{has_bit}
use Rattle.mask.specs.Tables.{mask_of}
use Rattle.mask.specs.TablesLaws.{mask_of_lt, has_mask_of, table_at, table_length}
use Rattle.machine.specs.declared.Pair.{Pair}
use Rattle.machine.specs.Machines.{observation, same_observation, matched, n_c, n_a}
use Rattle.machine.specs.Observed.{same_mask, matched_row, matched_masks}
use Rattle.machine.specs.WellFormedLaws.{WellPair}

-- ---- the mask of one observation
module _ (hidden o : ℕ) (observations : List ℕ) where
  abbrev Same : ℕ → Bool
  Same a = same_observation hidden o (get_or observations a 0)

  low : (n : ℕ) → n ≤ 64 → min n 64 ≡ n
  low n h = omega arith

  pub same_of : (n : ℕ) → n ≤ 64 → same_mask hidden o n observations ≡ mask_of n Same
  unfolding same_mask
  same_of n h = ap (λ (w : ℕ). mask_of w Same) (low n h)

  pub same_small : (n : ℕ) → n ≤ 64 → same_mask hidden o n observations < 2 ^ n
  same_small n h = rw (same_of n h) (mask_of_lt n Same)

  pub has_same : (n a : ℕ) → n ≤ 64 → has_bit (same_mask hidden o n observations) a ≡ and (ltb a n) (same_observation hidden o (get_or observations a 0))
  has_same n a h = rw (same_of n h) (has_mask_of n Same a)

-- ---- the masks of all concrete states
module _ (p : Pair) (c : ℕ) where
  pub row_in : c < n_c p → matched_row p c ≡ same_mask p.hidden (observation p.concrete c) (n_a p) p.abstraction.observations
  unfolding matched_row
  row_in h = rw (lt-ltb c (n_c p) h)

  pub row_out : n_c p ≤ c → matched_row p c ≡ 0
  unfolding matched_row
  row_out h = rw (le-ltb c (n_c p) h)

  pub matched_at : c < 64 → get_or (matched_masks p) c 0 ≡ matched_row p c
  unfolding matched_masks
  matched_at h = table_at 64 (matched_row p) c 0 h

pub matched_length : (p : Pair) → length (matched_masks p) ≡ 64
unfolding matched_masks
matched_length p = table_length 64 (matched_row p)

-- of a well-formed pair: the row of c is the mask of the abstract states that are matched with c
module _ (p : Pair) (well : WellPair p) (c : ℕ) (h : c < n_c p) where
  pub matched_row_lem : get_or (matched_masks p) c 0 ≡ same_mask p.hidden (observation p.concrete c) (n_a p) p.abstraction.observations
  matched_row_lem = matched_at p c (omega (arith, well.concrete.states_high)) ∙ row_in p c h

  pub has_matched : (a : ℕ) → has_bit (get_or (matched_masks p) c 0) a ≡ and (ltb a (n_a p)) (matched p c a)
  unfolding matched observation
  has_matched a = rw matched_row_lem (has_same p.hidden _ p.abstraction.observations (n_a p) a well.abstraction.states_high)

  pub has_matched_at : (a : ℕ) → a < n_a p → has_bit (get_or (matched_masks p) c 0) a ≡ matched p c a
  has_matched_at a l = has_matched a ∙ and_true_l _ (lt-ltb a (n_a p) l)

  pub matched_small : get_or (matched_masks p) c 0 < 2 ^ n_a p
  matched_small = rw matched_row_lem (same_small p.hidden _ p.abstraction.observations (n_a p) well.abstraction.states_high)
