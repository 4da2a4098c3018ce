-- Laws of the game's sets: pair sets and their order, X(l, k) as the largest, levels as the least.
use Rattle.std.specs.Prelude.{◌≡◌, ◌⊎◌, Bool, true, false}
use Rattle.std.proofs.Math.Path.{refl, ap}
use Rattle.std.proofs.Common.{sym, ◌∙◌, inl, inr, arith}
use Rattle.std.proofs.Math.Logic.{⊎_elim}
use Rattle.std.proofs.Math.Bool.{false≢true}
use mathlib.Core.List.{List, []}
use Prim.Native.Nat.{ℕ, zero, suc, ◌*◌, ◌≤◌, ◌<◌}
use Rattle.std.proofs.Math.ListN.{get_or}
use Rattle.mask.specs.Logic.{and}
use Rattle.mask.specs.LogicLaws.{both, and_l, and_r, and_i, and_true_l, or_l, or_r, or_e, not_e, not_i}
use Rattle.mask.specs.Bits.{has_bit}
use Rattle.mask.specs.Bounded.{sum, count}
use Rattle.mask.specs.BoundedLaws.{some_at, some_of}
use Rattle.mask.specs.Tables.{mask_of}
use Rattle.mask.specs.TablesLaws.{table_at, table_cong, mask_of_cong, has_mask_of_at}
use Rattle.machine.specs.declared.Pair.{Pair}
use Rattle.machine.specs.Machines.{in_fair_set, matched, n_c, n_a, sets_c, pairs}
use Rattle.machine.specs.Step.{steps}
use Rattle.machine.specs.StepLaws.{steps_mono}
use Rattle.machine.specs.Iteration.{iterate}
use Rattle.machine.specs.Game.{pair_set, mem, same_set, none, all_matched, in_x, round_x, x_after, x_over, xs_over, union, level_over, level, x_set, levels}
use Rattle.theory.specs.Statements.{Within}
use Rattle.theory.specs.Fixpoint.{Order, Fam, Fam_room, Test, Upside, Settled, settle_is, settled_below, settle_last, iterate_falls, iterate_down, iterate_keeps, settle_keeps}

module _ (p : Pair) where
  -- ---- pair sets
  pub mem_pair_set : (f : ℕ → ℕ → Bool) (c a : ℕ) → c < n_c p → a < n_a p → mem p (pair_set p f) c a ≡ and (matched p c a) (f c a)
  unfolding pair_set mem
  mem_pair_set f c a hc ha =
      ap (λ (m : ℕ). has_bit m a) (table_at (n_c p) (λ d. mask_of (n_a p) (λ b. and (matched p d b) (f d b))) c 0 hc)
      ∙ has_mask_of_at (n_a p) (λ b. and (matched p c b) (f c b)) a ha

  pub in_set : (f : ℕ → ℕ → Bool) (c a : ℕ) → c < n_c p → a < n_a p → matched p c a ≡ true → f c a ≡ true → mem p (pair_set p f) c a ≡ true
  in_set f c a hc ha m t = mem_pair_set f c a hc ha ∙ and_i m t

  pub of_set : (f : ℕ → ℕ → Bool) (c a : ℕ) → c < n_c p → a < n_a p → mem p (pair_set p f) c a ≡ true → (matched p c a ≡ true) × (f c a ≡ true)
  of_set f c a hc ha t = let u = sym (mem_pair_set f c a hc ha) ∙ t in (and_l _ _ u, and_r _ _ u)

  pub set_mono : (f g : ℕ → ℕ → Bool) → ((c a : ℕ) → c < n_c p → a < n_a p → matched p c a ≡ true → f c a ≡ true → g c a ≡ true)
      → Within p (pair_set p f) (pair_set p g)
  set_mono f g h c a hc ha t = let u = of_set f c a hc ha t in in_set g c a hc ha u.0 (h c a hc ha u.0 u.1)

  pub Within_refl : (S : List ℕ) → Within p S S
  Within_refl S c a hc ha t = t

  pub Within_trans : (S R U : List ℕ) → Within p S R → Within p R U → Within p S U
  Within_trans S R U h k c a hc ha t = k c a hc ha (h c a hc ha t)

  pub none_empty : (c a : ℕ) → c < n_c p → a < n_a p → mem p (none p) c a ≡ true → ⊥
  unfolding none
  none_empty c a hc ha t = false≢true (of_set _ c a hc ha t).1

  pub none_within : (S : List ℕ) → Within p (none p) S
  none_within S c a hc ha t = absurd (none_empty c a hc ha t)

  pub in_all_matched : (c a : ℕ) → c < n_c p → a < n_a p → matched p c a ≡ true → mem p (all_matched p) c a ≡ true
  unfolding all_matched
  in_all_matched c a hc ha m = in_set _ c a hc ha m refl

  pub of_all_matched : (c a : ℕ) → c < n_c p → a < n_a p → mem p (all_matched p) c a ≡ true → matched p c a ≡ true
  unfolding all_matched
  of_all_matched c a hc ha t = (of_set _ c a hc ha t).0

  -- ---- sets made by a test are equal by their pairs
  abbrev pub Canonical : List ℕ → Type 0
  Canonical S = S ≡ pair_set p (mem p S)

  pub pair_set_cong : (f g : ℕ → ℕ → Bool) → ((c a : ℕ) → c < n_c p → a < n_a p → matched p c a ≡ true → f c a ≡ g c a) → pair_set p f ≡ pair_set p g
  unfolding pair_set
  pair_set_cong f g h = table_cong (n_c p) _ _ (λ c hc. mask_of_cong (n_a p) _ _ (λ a ha. both _ _
      (λ t. and_i (and_l _ _ t) (sym (h c a hc ha (and_l _ _ t)) ∙ and_r _ _ t))
      (λ t. and_i (and_l _ _ t) (h c a hc ha (and_l _ _ t) ∙ and_r _ _ t))))

  pub set_canonical : (f : ℕ → ℕ → Bool) → Canonical (pair_set p f)
  set_canonical f = pair_set_cong f _ (λ c a hc ha m. sym (mem_pair_set f c a hc ha ∙ and_true_l _ m))

  pub set_ext : (S R : List ℕ) → Canonical S → Canonical R → Within p S R → Within p R S → S ≡ R
  set_ext S R cs cr h k = cs ∙ pair_set_cong _ _ (λ c a hc ha m. both _ _ (h c a hc ha) (k c a hc ha)) ∙ sym cr

  -- ---- the order of sets
  abbrev Rows : Order (List ℕ)
  Rows = Fam (n_c p) (λ S c. get_or S c 0) (Fam (n_a p) has_bit Test)

  pub same_within : (S R : List ℕ) → same_set p S R ≡ true → Within p S R
  unfolding same_set mem Fam Test
  same_within S R t c a hc ha = Rows.same_le S R t c hc a ha

  pub same_holds : (S R : List ℕ) → same_set p S R ≡ true → Within p R S
  unfolding same_set mem Fam Test
  same_holds S R t c a hc ha = Rows.same_ge S R t c hc a ha

  pub same_of : (S R : List ℕ) → Within p S R → Within p R S → same_set p S R ≡ true
  unfolding same_set mem Fam Test
  same_of S R h k = Rows.same_of S R (λ c hc a ha. h c a hc ha) (λ c hc a ha. k c a hc ha)

  -- how many pairs a set has
  unfoldable pub set_size : List ℕ → ℕ
  set_size S = sum (n_c p) (λ c. count (n_a p) (mem p S c))

  pub size_room : (S : List ℕ) → set_size S ≤ pairs p
  unfolding set_size count mem Fam Test
  size_room S = omega (arith, Rows.size_room S, rows)
    where
      rows : Rows.room ≡ pairs p
      rows = Fam_room (n_c p) (λ S c. get_or S c 0) (Fam (n_a p) has_bit Test)
          ∙ ap (λ (x : ℕ). n_c p * x) (Fam_room (n_a p) has_bit Test ∙ omega arith)

  pub size_within : (S R : List ℕ) → Within p S R → set_size S ≤ set_size R
  unfolding set_size count mem Fam Test
  size_within S R h = Rows.size_le S R (λ c hc a ha. h c a hc ha)

  pub size_same : (S R : List ℕ) → Within p S R → set_size R ≤ set_size S → Within p R S
  unfolding set_size count mem Fam Test
  size_same S R h l c a hc ha = Rows.size_eq S R (λ c hc a ha. h c a hc ha) l c hc a ha

  abbrev pub Pairs : Order (List ℕ)
  Pairs = record {
    le = Within p;
    le_refl = Within_refl;
    le_trans = Within_trans;
    same = same_set p;
    same_le = same_within;
    same_ge = same_holds;
    same_of = same_of;
    size = set_size;
    room = pairs p;
    size_room = size_room;
    size_le = size_within;
    size_eq = size_same;
  }

  -- a pair that steps into S steps into every set that has the pairs of S
  pub steps_within : (S R : List ℕ) → Within p S R → (c a : ℕ) → steps p (mem p S) c a ≡ true → steps p (mem p R) c a ≡ true
  steps_within S R h c a t = steps_mono p (mem p S) (mem p R) h c a t

  -- ---- the rule of X(l, k), as a sentence: the three ways, over goals G, the level B and X
  pub data InX (G B : List ℕ) (k : ℕ) (X : List ℕ) (c a : ℕ) : Type 0 where
    goal : mem p G c a ≡ true → InX G B k X c a
    lower : steps p (mem p B) c a ≡ true → InX G B k X c a
    stay : in_fair_set p.concrete k c ≡ false → steps p (mem p X) c a ≡ true → InX G B k X c a

  pub in_x_of : (G B : List ℕ) (k : ℕ) (X : List ℕ) (c a : ℕ) → InX G B k X c a → in_x p G B k X c a ≡ true
  unfolding in_x
  in_x_of G B k X c a (goal t) = or_l _ t
  in_x_of G B k X c a (lower t) = or_r _ (or_l _ t)
  in_x_of G B k X c a (stay o t) = or_r _ (or_r _ (and_i (not_i o) t))

  pub in_x_at : (G B : List ℕ) (k : ℕ) (X : List ℕ) (c a : ℕ) → in_x p G B k X c a ≡ true → InX G B k X c a
  unfolding in_x
  in_x_at G B k X c a t = ⊎_elim goal (λ u. ⊎_elim lower (λ v. stay (not_e _ (and_l _ _ v)) (and_r _ _ v)) (or_e u)) (or_e t)

  pub InX_mono : {G B : List ℕ} {k : ℕ} {X : List ℕ} {c a : ℕ} (G' B' X' : List ℕ)
      → Within p G G' → Within p B B' → Within p X X' → c < n_c p → a < n_a p → InX G B k X c a → InX G' B' k X' c a
  InX_mono {c} {a} G' B' X' g b x hc ha (goal t) = goal (g c a hc ha t)
  InX_mono {B} {c} {a} G' B' X' g b x hc ha (lower t) = lower (steps_within B B' b c a t)
  InX_mono {X} {c} {a} G' B' X' g b x hc ha (stay o t) = stay o (steps_within X X' x c a t)

  -- ---- X(l, k) is the largest set in which each pair meets the rule
  pub record IsX (G B : List ℕ) (k : ℕ) (X : List ℕ) : Type 0 where
    pub at : (c a : ℕ) → c < n_c p → a < n_a p → mem p X c a ≡ true → (matched p c a ≡ true) × InX G B k X c a
    pub of : (c a : ℕ) → c < n_c p → a < n_a p → matched p c a ≡ true → InX G B k X c a → mem p X c a ≡ true
    pub largest : (U : List ℕ) → ((c a : ℕ) → c < n_c p → a < n_a p → mem p U c a ≡ true → (matched p c a ≡ true) × InX G B k U c a) → Within p U X

  module _ (G B : List ℕ) (k : ℕ) where
    pub in_round : (X : List ℕ) (c a : ℕ) → c < n_c p → a < n_a p → matched p c a ≡ true → InX G B k X c a → mem p (round_x p G B k X) c a ≡ true
    unfolding round_x
    in_round X c a hc ha m i = in_set _ c a hc ha m (in_x_of G B k X c a i)

    pub of_round : (X : List ℕ) (c a : ℕ) → c < n_c p → a < n_a p → mem p (round_x p G B k X) c a ≡ true → (matched p c a ≡ true) × InX G B k X c a
    unfolding round_x
    of_round X c a hc ha t = let q = of_set _ c a hc ha t in (q.0, in_x_at G B k X c a q.1)

    pub round_mono : (X Y : List ℕ) → Within p X Y → Within p (round_x p G B k X) (round_x p G B k Y)
    round_mono X Y h c a hc ha t =
        let q = of_round X c a hc ha t in
        in_round Y c a hc ha q.0 (InX_mono G B Y (Within_refl G) (Within_refl B) h hc ha q.1)

    pub round_falls : Within p (round_x p G B k (all_matched p)) (all_matched p)
    round_falls c a hc ha t = in_all_matched c a hc ha (of_round _ c a hc ha t).0

    pub x_over_settled : Settled Pairs (round_x p G B k) (all_matched p) (x_over p G B k)
    unfolding x_over
    x_over_settled = settle_is Pairs (round_x p G B k) round_mono (pairs p) (all_matched p) round_falls (size_room (all_matched p))

    pub x_over_is : IsX G B k (x_over p G B k)
    x_over_is =
        let s = x_over_settled in
        record {
          at = λ c a hc ha t. of_round _ c a hc ha (s.up c a hc ha t);
          of = λ c a hc ha m i. s.down c a hc ha (in_round _ c a hc ha m i);
          largest = λ U h. s.largest U
              (λ c a hc ha t. let q = h c a hc ha t in in_round U c a hc ha q.0 q.1)
              (λ c a hc ha t. in_all_matched c a hc ha (h c a hc ha t).0);
        }

    -- it is what the rounds come to
    pub x_over_round : (i : ℕ) → Within p (x_over p G B k) (x_after p G B k i)
    unfolding x_after
    x_over_round i = settled_below Pairs (round_x p G B k) round_mono x_over_settled i

    pub round_x_over : Within p (x_after p G B k (pairs p)) (x_over p G B k)
    unfolding x_after x_over
    round_x_over = settle_last Pairs (round_x p G B k) round_mono (pairs p) (all_matched p) round_falls

    pub x_over_canonical : Canonical (x_over p G B k)
    unfolding x_over round_x all_matched
    x_over_canonical = settle_keeps (round_x p G B k) Canonical (λ x h. set_canonical _) (same_set p) (pairs p) (all_matched p) (set_canonical _)

  pub x_over_mono : (G G' B B' : List ℕ) (k : ℕ) → Within p G G' → Within p B B' → Within p (x_over p G B k) (x_over p G' B' k)
  x_over_mono G G' B B' k g b =
      (x_over_is G' B' k).largest _ (λ c a hc ha t.
      let q = (x_over_is G B k).at c a hc ha t in (q.0, InX_mono G' B' _ g b (Within_refl _) hc ha q.1))

  -- ---- a level is the union of X(l, 1) .. X(l, m)
  pub level_at : (G B : List ℕ) (c a : ℕ) → c < n_c p → a < n_a p → mem p (level_over p G B) c a ≡ true
      → (k : ℕ) × (k < sets_c p) × (mem p (x_over p G B k) c a ≡ true)
  unfolding level_over union xs_over
  level_at G B c a hc ha t =
      let q = some_at _ _ (of_set _ c a hc ha t).1 in
      (q.0, q.1, rw (table_at (sets_c p) (x_over p G B) q.0 [] q.1) at q.2)

  pub level_of_lem : (G B : List ℕ) (k c a : ℕ) → k < sets_c p → c < n_c p → a < n_a p
      → mem p (x_over p G B k) c a ≡ true → mem p (level_over p G B) c a ≡ true
  unfolding level_over union xs_over
  level_of_lem G B k c a hk hc ha t =
      in_set _ c a hc ha ((x_over_is G B k).at c a hc ha t).0 (some_of _ _ k hk (rw (table_at (sets_c p) (x_over p G B) k [] hk) t))

  pub level_over_mono : (G G' B B' : List ℕ) → Within p G G' → Within p B B' → Within p (level_over p G B) (level_over p G' B')
  level_over_mono G G' B B' g b c a hc ha t =
      let q = level_at G B c a hc ha t in
      level_of_lem G' B' q.0 c a q.1 hc ha (x_over_mono G G' B B' q.0 g b c a hc ha q.2)

  -- a pair of the next level is a goal or steps into it, where the level grows
  pub level_way : (G B : List ℕ) → Within p B (level_over p G B) → (c a : ℕ) → c < n_c p → a < n_a p → mem p (level_over p G B) c a ≡ true
      → (matched p c a ≡ true) × ((mem p G c a ≡ true) ⊎ (steps p (mem p (level_over p G B)) c a ≡ true))
  level_way G B g c a hc ha t =
      let q = level_at G B c a hc ha t in
      let r = (x_over_is G B q.0).at c a hc ha q.2 in
      (r.0, way q.0 q.1 r.1)
    where
      way : (i : ℕ) → i < sets_c p → InX G B i (x_over p G B i) c a → (mem p G c a ≡ true) ⊎ (steps p (mem p (level_over p G B)) c a ≡ true)
      way i hi (goal t) = inl t
      way i hi (lower t) = inr (steps_within B _ g c a t)
      way i hi (stay o t) = inr (steps_within (x_over p G B i) _ (λ d b hd hb u. level_of_lem G B i d b hi hd hb u) c a t)

  -- so the level lies within every X over it
  pub holds_below : (G B : List ℕ) → Within p B (level_over p G B) → (k : ℕ) → Within p (level_over p G B) (x_over p G (level_over p G B) k)
  holds_below G B g k =
      (x_over_is G _ k).largest _ (λ c a hc ha t. let q = level_way G B g c a hc ha t in (q.0, ⊎_elim goal lower q.1))

  -- ---- level l, and the levels' union
  module _ (G : List ℕ) where
    grows : (S R : List ℕ) → Within p R S → Within p (level_over p G R) (level_over p G S)
    grows S R h = level_over_mono G G R S (Within_refl G) h

    pub level_zero : level p G 0 ≡ none p
    unfolding level iterate
    level_zero = refl

    pub level_suc : (l : ℕ) → level p G (suc l) ≡ level_over p G (level p G l)
    unfolding level iterate
    level_suc l = refl

    pub level_grows : (l : ℕ) → Within p (level p G l) (level p G (suc l))
    unfolding level Upside
    level_grows l = iterate_falls (Upside Pairs) (level_over p G) grows (none p) (none_within _) l

    pub level_later : (l n : ℕ) → l ≤ n → Within p (level p G l) (level p G n)
    unfolding level Upside
    level_later l n h = iterate_down (Upside Pairs) (level_over p G) grows (none p) (none_within _) l n h

    -- level l lies within every X(l + 1, k)
    pub level_within_x : (l k : ℕ) → Within p (level p G l) (x_set p G (suc l) k)
    unfolding level iterate x_set
    level_within_x zero k = none_within _
    level_within_x (suc l) k = holds_below G (level p G l) (level_grows l) k

  -- the levels' union is the least set that is its own next level
  pub record IsTop (G Y : List ℕ) : Type 0 where
    pub at : Within p Y (level_over p G Y)
    pub of : Within p (level_over p G Y) Y
    pub least : (U : List ℕ) → Within p (level_over p G U) U → Within p Y U

  module _ (G : List ℕ) where
    levels_settled : Settled (Upside Pairs) (level_over p G) (none p) (levels p G)
    unfolding levels Upside
    levels_settled = settle_is (Upside Pairs) (level_over p G) (grows G) (pairs p) (none p) (none_within _) ((Upside Pairs).size_room (none p))

    pub levels_is : IsTop G (levels p G)
    unfolding Upside
    levels_is = let s = levels_settled in record { at = s.down; of = s.up; least = λ U h. s.largest U h (none_within U) }

    -- every level lies within it, and it within level P
    pub level_levels : (l : ℕ) → Within p (level p G l) (levels p G)
    unfolding level Upside
    level_levels l = settled_below (Upside Pairs) (level_over p G) (grows G) levels_settled l

    pub levels_level : Within p (levels p G) (level p G (pairs p))
    unfolding level levels Upside
    levels_level = settle_last (Upside Pairs) (level_over p G) (grows G) (pairs p) (none p) (none_within _)

    -- so it is level P
    pub level_canonical : (l : ℕ) → Canonical (level p G l)
    unfolding level level_over union none
    level_canonical l = iterate_keeps (level_over p G) Canonical (λ x h. set_canonical _) l (none p) (set_canonical _)

    pub levels_canonical : Canonical (levels p G)
    unfolding levels level_over union none
    levels_canonical = settle_keeps (level_over p G) Canonical (λ x h. set_canonical _) (same_set p) (pairs p) (none p) (set_canonical _)

    pub levels_eq : levels p G ≡ level p G (pairs p)
    levels_eq = set_ext _ _ levels_canonical (level_canonical (pairs p)) levels_level (level_levels (pairs p))

  pub levels_mono : (G G' : List ℕ) → Within p G G' → Within p (levels p G) (levels p G')
  levels_mono G G' g =
      (levels_is G).least _ (Within_trans (level_over p G (levels p G')) (level_over p G' (levels p G')) (levels p G')
      (level_over_mono G G' _ _ g (Within_refl _)) (levels_is G').of)

  pub levels_matched : (G : List ℕ) → Within p (levels p G) (all_matched p)
  levels_matched G = (levels_is G).least _ (λ c a hc ha t.
      let q = level_at G _ c a hc ha t in in_all_matched c a hc ha ((x_over_is G _ q.0).at c a hc ha q.2).0)
