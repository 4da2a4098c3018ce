-- Document 01, "The game". A set of pairs is a list of masks: for each concrete state the abstract states beside it.
use Rattle.std.specs.Prelude.{Bool, true, false, List, [], ℕ, zero, suc, ◌*◌, get_or}
use Rattle.std.specs.Bool.{beq}
use Rattle.mask.specs.Logic.{not, and, or}
use Rattle.mask.specs.Bits.{has_bit}
use Rattle.mask.specs.Bounded.{every, some}
use Rattle.mask.specs.Tables.{mask_of, table}
use Rattle.machine.specs.declared.Pair.{Pair}
use Rattle.machine.specs.Machines.{in_fair_set, matched, next, n_c, n_a, sets_c, sets_a, pairs}
use Rattle.machine.specs.Step.{steps}
use Rattle.machine.specs.Iteration.{iterate, settle}

module _ (p : Pair) where
  -- the matched pairs that pass f: "all sets below hold matched pairs only"
  unfoldable pub pair_set : (ℕ → ℕ → Bool) → List ℕ
  pair_set f = table (n_c p) (λ c. mask_of (n_a p) (λ a. and (matched p c a) (f c a)))

  -- (c, a) is in S
  unfoldable pub mem : List ℕ → ℕ → ℕ → Bool
  mem S c a = has_bit (get_or S c 0) a

  -- two sets have the same pairs
  unfoldable pub same_set : List ℕ → List ℕ → Bool
  same_set S R = every (n_c p) (λ c. every (n_a p) (λ a. beq (mem S c a) (mem R c a)))

  unfoldable pub none : List ℕ
  none = pair_set (λ c a. false)

  unfoldable pub all_matched : List ℕ
  all_matched = pair_set (λ c a. true)

  -- "A goal of section j is a pair with a in score set j that steps into Z of the next section."
  unfoldable pub goals : List (List ℕ) → ℕ → List ℕ
  goals Z j = let N = get_or Z (next (sets_a p) j) [] in pair_set (λ c a. and (in_fair_set p.abstraction j a) (steps p (mem N) c a))

  -- "each pair is a goal, or steps into level l − 1, or has c outside rig set k and steps into X"
  unfoldable pub in_x : List ℕ → List ℕ → ℕ → List ℕ → ℕ → ℕ → Bool
  in_x goals below k X c a =
      or (mem goals c a) (or (steps p (mem below) c a) (and (not (in_fair_set p.concrete k c)) (steps p (mem X) c a)))

  -- one round of X: the pairs that meet the rule over X
  unfoldable pub round_x : List ℕ → List ℕ → ℕ → List ℕ → List ℕ
  round_x goals below k X = pair_set (in_x goals below k X)

  -- X after i rounds, from all matched pairs downward, over level l − 1
  unfoldable pub x_after : List ℕ → List ℕ → ℕ → ℕ → List ℕ
  x_after goals below k i = iterate i (round_x goals below k) all_matched

  -- "X(l, k) .. is the largest X in which" each pair meets the rule: from all matched pairs downward, over level l − 1
  unfoldable pub x_over : List ℕ → List ℕ → ℕ → List ℕ
  x_over goals below k = settle same_set (pairs p) (round_x goals below k) all_matched

  -- X(l, 1) .. X(l, m) over level l − 1
  unfoldable pub xs_over : List ℕ → List ℕ → List (List ℕ)
  xs_over goals below = table (sets_c p) (x_over goals below)

  -- the union of X(l, 1) .. X(l, m)
  unfoldable pub union : List (List ℕ) → List ℕ
  union Xs = pair_set (λ c a. some (sets_c p) (λ k. mem (get_or Xs k []) c a))

  -- level l from level l − 1
  unfoldable pub level_over : List ℕ → List ℕ → List ℕ
  level_over goals below = union (xs_over goals below)

  -- "Level 0 is empty. .. Level l is the union of X(l, 1) .. X(l, m)."
  unfoldable pub level : List ℕ → ℕ → List ℕ
  level goals l = iterate l (level_over goals) none

  -- X(l, k), for l from 1
  unfoldable pub x_set : List ℕ → ℕ → ℕ → List ℕ
  x_set goals zero k = none
  x_set goals (suc l) k = x_over goals (level goals l) k

  -- the union of all levels: they grow, until a level is the one before
  unfoldable pub levels : List ℕ → List ℕ
  levels goals = settle same_set (pairs p) (level_over goals) none

  -- a turn makes every section's set afresh from a family
  unfoldable pub turn : List (List ℕ) → List (List ℕ)
  turn Z = table (sets_a p) (λ j. let G = goals Z j in levels G)

  -- all matched pairs in every section
  unfoldable pub first_family : List (List ℕ)
  first_family = table (sets_a p) (λ j. all_matched)

  -- the family after t turns
  unfoldable pub family_after : ℕ → List (List ℕ)
  family_after t = iterate t turn first_family

  unfoldable pub same_family : List (List ℕ) → List (List ℕ) → Bool
  same_family Z W = every (sets_a p) (λ j. same_set (get_or Z j []) (get_or W j []))

  -- "Z1 .. Zn is the largest family such that each Zj is the union of its levels."
  unfoldable pub family : List (List ℕ)
  family = settle same_family (sets_a p * pairs p) turn first_family
