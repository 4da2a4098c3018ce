-- Laws of families: a turn is monotone, families shrink, and the family they come to is the largest that a turn keeps.
use Rattle.std.specs.Prelude.{◌≡◌, true, ℕ, suc, ◌*◌, ◌≤◌, ◌<◌}
use Rattle.std.proofs.Math.Path.{sym}
use Rattle.std.proofs.Common.{◌∙◌}
use mathlib.Core.List.{List, []}
use Rattle.std.proofs.Math.ListN.{get_or}
use Rattle.mask.specs.LogicLaws.{and_l, and_r, and_i}
use Rattle.mask.specs.Tables.{table}
use Rattle.mask.specs.TablesLaws.{table_at, table_cong}
use Rattle.machine.specs.declared.Pair.{Pair}
use Rattle.machine.specs.Machines.{in_fair_set, matched, next, n_c, n_a, sets_a, pairs}
use Rattle.machine.specs.Step.{steps}
use Rattle.machine.specs.StepLaws.{next_lt}
use Rattle.machine.specs.Game.{mem, all_matched, goals, levels, turn, first_family, family_after, same_family, family}
use Rattle.theory.specs.Statements.{Within}
use Rattle.theory.specs.Fixpoint.{Order, Fam, Fam_room, Settled, settle_is, settle_reaches, settle_keeps, settled_below, iterate_falls, iterate_down, settle_last}
use Rattle.theory.specs.GameLaws.{Canonical, Pairs, Within_trans, in_set, of_set, set_ext, set_canonical, steps_within, levels_canonical, levels_mono, levels_matched}

module _ (p : Pair) where
  -- ---- goals
  pub goals_at : (Z : List (List ℕ)) (j c a : ℕ) → c < n_c p → a < n_a p → mem p (goals p Z j) c a ≡ true
      → (matched p c a ≡ true) × (in_fair_set p.abstraction j a ≡ true) × (steps p (mem p (get_or Z (next (sets_a p) j) [])) c a ≡ true)
  unfolding goals
  goals_at Z j c a hc ha t = let q = of_set p _ c a hc ha t in (q.0, and_l _ _ q.1, and_r _ _ q.1)

  pub goals_of : (Z : List (List ℕ)) (j c a : ℕ) → c < n_c p → a < n_a p → matched p c a ≡ true → in_fair_set p.abstraction j a ≡ true
      → steps p (mem p (get_or Z (next (sets_a p) j) [])) c a ≡ true → mem p (goals p Z j) c a ≡ true
  unfolding goals
  goals_of Z j c a hc ha m i s = in_set p _ c a hc ha m (and_i i s)

  -- ---- families in order, section by section
  unfoldable pub Families : Order (List (List ℕ))
  Families = Fam (sets_a p) (λ Z j. get_or Z j []) (Pairs p)

  abbrev pub WithinF : List (List ℕ) → List (List ℕ) → Type 0
  WithinF Z W = (j : ℕ) → j < sets_a p → Within p (get_or Z j []) (get_or W j [])

  pub Families_room : Families.room ≡ sets_a p * pairs p
  unfolding Families
  Families_room = Fam_room (sets_a p) (λ Z j. get_or Z j []) (Pairs p)

  pub goals_mono : (Z W : List (List ℕ)) → WithinF Z W → (j : ℕ) → j < sets_a p → Within p (goals p Z j) (goals p W j)
  goals_mono Z W h j hj c a hc ha t =
      let q = goals_at Z j c a hc ha t in
      goals_of W j c a hc ha q.0 q.1 (steps_within p _ _ (h (next (sets_a p) j) (next_lt (sets_a p) j hj)) c a q.2)

  -- ---- a turn
  pub turn_at : (Z : List (List ℕ)) (j : ℕ) → j < sets_a p → get_or (turn p Z) j [] ≡ levels p (goals p Z j)
  unfolding turn
  turn_at Z j h = table_at (sets_a p) (λ i. levels p (goals p Z i)) j [] h

  pub first_at : (j : ℕ) → j < sets_a p → get_or (first_family p) j [] ≡ all_matched p
  unfolding first_family
  first_at j h = table_at (sets_a p) (λ i. all_matched p) j [] h

  pub turn_mono : (Z W : List (List ℕ)) → WithinF Z W → WithinF (turn p Z) (turn p W)
  turn_mono Z W h j hj = rw (turn_at Z j hj, turn_at W j hj) (levels_mono p _ _ (goals_mono Z W h j hj))

  -- the first family is the largest that a turn can make
  pub turn_first : (Z : List (List ℕ)) → WithinF (turn p Z) (first_family p)
  turn_first Z j hj = rw (turn_at Z j hj, first_at j hj) (levels_matched p (goals p Z j))

  -- families shrink
  pub family_shrinks : (t : ℕ) → WithinF (family_after p (suc t)) (family_after p t)
  unfolding family_after Families Fam
  family_shrinks t = iterate_falls Families (turn p) turn_mono (first_family p) (turn_first _) t

  pub family_later : (t u : ℕ) → t ≤ u → WithinF (family_after p u) (family_after p t)
  unfolding family_after Families Fam
  family_later t u h = iterate_down Families (turn p) turn_mono (first_family p) (turn_first _) t u h

  -- ---- the family they come to
  pub family_settled : Settled Families (turn p) (first_family p) (family p)
  unfolding family same_family Families Fam
  family_settled =
      settle_is Families (turn p) turn_mono (sets_a p * pairs p) (first_family p) (turn_first _) (rw (sym Families_room) (Families.size_room (first_family p)))

  pub record IsFamily (Z : List (List ℕ)) : Type 0 where
    pub at : (j : ℕ) → j < sets_a p → Within p (get_or Z j []) (levels p (goals p Z j))
    pub of : (j : ℕ) → j < sets_a p → Within p (levels p (goals p Z j)) (get_or Z j [])
    pub largest : (W : List (List ℕ)) → ((j : ℕ) → j < sets_a p → Within p (get_or W j []) (levels p (goals p W j))) → WithinF W Z

  pub family_is : IsFamily (family p)
  unfolding Families Fam
  family_is =
      let s = family_settled in
      record {
        at = λ j hj. rw (turn_at (family p) j hj) at (s.up j hj);
        of = λ j hj. rw (turn_at (family p) j hj) at (s.down j hj);
        largest = λ W h. s.largest W (λ j hj. rw (turn_at W j hj) (h j hj))
            (λ j hj. rw (first_at j hj) (Within_trans p (get_or W j []) (levels p (goals p W j)) (all_matched p) (h j hj) (levels_matched p (goals p W j))));
      }

  -- it lies within every family before it, and the last one within it
  pub family_within : (t : ℕ) → WithinF (family p) (family_after p t)
  unfolding family_after Families Fam
  family_within t = settled_below Families (turn p) turn_mono family_settled t

  pub family_last : WithinF (family_after p (sets_a p * pairs p)) (family p)
  unfolding family_after family same_family Families Fam
  family_last = settle_last Families (turn p) turn_mono (sets_a p * pairs p) (first_family p) (turn_first _)

  -- ---- families made section by section of canonical sets are equal by their pairs
  pub record Tabled (Z : List (List ℕ)) : Type 0 where
    pub listed : Z ≡ table (sets_a p) (λ j. get_or Z j [])
    pub canonical : (j : ℕ) → j < sets_a p → Canonical p (get_or Z j [])

  pub tabled : (f : ℕ → List ℕ) → ((j : ℕ) → j < sets_a p → Canonical p (f j)) → Tabled (table (sets_a p) f)
  tabled f h = record {
    listed = table_cong (sets_a p) _ _ (λ j hj. sym (table_at (sets_a p) f j [] hj));
    canonical = λ j hj. rw (table_at (sets_a p) f j [] hj) (h j hj);
  }

  pub family_ext : (Z W : List (List ℕ)) → Tabled Z → Tabled W → WithinF Z W → WithinF W Z → Z ≡ W
  family_ext Z W tz tw h k =
      tz.listed ∙ table_cong (sets_a p) _ _ (λ j hj. set_ext p _ _ (tz.canonical j hj) (tw.canonical j hj) (h j hj) (k j hj)) ∙ sym tw.listed

  pub turn_tabled : (Z : List (List ℕ)) → Tabled (turn p Z)
  unfolding turn
  turn_tabled Z = tabled _ (λ j hj. levels_canonical p (goals p Z j))

  pub first_tabled : Tabled (first_family p)
  unfolding first_family all_matched
  first_tabled = tabled _ (λ j hj. set_canonical p _)

  pub family_tabled : Tabled (family p)
  unfolding family
  family_tabled = settle_keeps (turn p) Tabled (λ Z h. turn_tabled Z) (same_family p) (sets_a p * pairs p) (first_family p) first_tabled

  -- a turn changes nothing in it
  pub family_stays : turn p (family p) ≡ family p
  unfolding Families Fam
  family_stays = family_ext _ _ (turn_tabled _) family_tabled family_settled.down family_settled.up

  pub family_reached : (t : ℕ) × (t ≤ sets_a p * pairs p) × (family_after p t ≡ family p)
  unfolding family_after family
  family_reached = let q = settle_reaches (turn p) (same_family p) (sets_a p * pairs p) (first_family p) in (q.0, q.1, sym q.2)
