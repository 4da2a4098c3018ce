-- Document 01, "Line check": the lines.
use Rattle.std.specs.Prelude.{Bool, cond, List, ℕ, suc, ◌*◌, eqb, leb, ltb, Err}
use Rattle.mask.specs.Logic.{not, and, or}
use Rattle.mask.specs.Bounded.{every, first}
use Rattle.machine.specs.declared.Pair.{Pair}
use Rattle.machine.specs.Refusals.{Tested, valid}
use Rattle.machine.specs.Machines.{in_fair_set, matched, next, n_c, n_a, sets_c, sets_a, pairs}
use Rattle.machine.specs.Step.{steps}
use Rattle.machine.specs.Table.{blank, entry, covers}
use Rattle.machine.specs.Ranks.{level_of, set_of}
use Rattle.machine.specs.declared.Refusal.TheVariants.{FailingEntry}

module _ (p : Pair) (T : List ℕ) where
  -- the sets that a line steps into: "all sets below hold matched pairs only"
  -- the non-blank pairs of section j
  unfoldable pub non_blank : ℕ → ℕ → ℕ → Bool
  non_blank j c a = and (matched p c a) (covers p T j c a)

  -- the "pairs of this section with entry 0 or smaller l"
  unfoldable pub lower : ℕ → ℕ → ℕ → ℕ → Bool
  lower j l c a = and (matched p c a) (or (eqb (entry p T j c a) 0) (ltb (level_of (sets_c p) (entry p T j c a)) l))

  -- the "pairs with entry at most r"
  unfoldable pub at_most : ℕ → ℕ → ℕ → ℕ → Bool
  at_most j r c a = and (matched p c a) (leb (entry p T j c a) r)

  -- "entry 0: a is in score set j, and the pair steps into the non-blank pairs of the next section"
  unfoldable pub goal_line : ℕ → ℕ → ℕ → Bool
  goal_line j c a = and (in_fair_set p.abstraction j a) (steps p (non_blank (next (sets_a p) j)) c a)

  -- "entry r > 0 with its l and k: if c is in rig set k, the pair steps into pairs of this section with entry 0 or smaller l;
  -- otherwise into pairs with entry at most r"
  unfoldable pub rank_line : ℕ → ℕ → ℕ → ℕ → Bool
  rank_line j r c a =
      let below = steps p (lower j (level_of (sets_c p) r)) c a in
      let upto = steps p (at_most j r) c a in
      cond (in_fair_set p.concrete (set_of (sets_c p) r) c) below upto

  -- "An entry passes if it is blank, or the pair is matched, the entry is at most m × P, and" its line holds
  unfoldable pub passes : ℕ → ℕ → ℕ → Bool
  passes j c a =
      let r = entry p T j c a in
      let goal = goal_line j c a in
      let ranked = rank_line j r c a in
      let line = cond (eqb r 0) goal ranked in
      or (eqb r blank) (and (matched p c a) (and (leb r (sets_c p * pairs p)) line))

  -- "A table passes each line if all its n × P entries pass."
  unfoldable pub passes_each : Bool
  passes_each = every (sets_a p) (λ j. every (n_c p) (λ c. every (n_a p) (passes j c)))

  -- 12, with the first entry that fails, by section, c and a; the spot's section is counted from 1
  unfoldable pub lines_validity : Tested
  lines_validity =
      let j = first (sets_a p) (λ j. not (every (n_c p) (λ c. every (n_a p) (passes j c)))) in
      let c = first (n_c p) (λ c. not (every (n_a p) (passes j c))) in
      let a = first (n_a p) (λ a. not (passes j c a)) in
      cond (ltb j (sets_a p)) (Err (FailingEntry (suc j) c a)) valid
