-- Laws of the solver by turns: the first family row by row, what a turn says and leaves by what the solver says, and the look-up.
use Rattle.std.specs.Prelude.{Bool, true, false, cond, ◌⊎◌, ◌≡◌, ℕ, ◌+◌, ◌-◌, ◌*◌, ◌/◌, ◌%◌, ◌≤◌, ◌<◌, ltb, leb, length, take, drop, replicate, Err, Ok}
use mathlib.Core.List.{List, [], ◌++◌}
use Rattle.std.proofs.Math.Logic.{⊎_elim, by_cases}
use Rattle.std.proofs.Math.Path.{refl, sym, ap}
use Rattle.std.specs.Result.{result_and, result_unwrap_or}
use Rattle.std.proofs.Common.{ap₂, ◌∙◌, arith}
use Rattle.std.proofs.Math.Decide.{dec_lt}
use Rattle.std.proofs.Math.Dec.{eqb}
use Rattle.std.proofs.Math.ListN.{get_or, get_or-append}
use Rattle.std.proofs.lemmas.List.{length-replicate, length-take-le, get_or-take}
use borrow.Author.Tests.{lt-ltb, le-ltb, ltb-true, le-leb, lt-leb, leb-true, eq-eqb}
use Rattle.mask.specs.Logic.{and}
use Rattle.mask.specs.LogicLaws.{and_l, and_r, and_i, and_true_l, and_false_l, and_false_r}
use Rattle.mask.specs.Bits.{has_bit}
use Rattle.mask.specs.Bounded.{every}
use Rattle.mask.specs.BoundedLaws.{every_of}
use Rattle.mask.specs.Tables.{table, front}
use Rattle.mask.specs.TablesLaws.{table_at, table_past, table_cong, fill_done}
use Rattle.mask.specs.FrontLaws.{front_none}
use Rattle.machine.specs.declared.Pair.{Pair}
use Rattle.machine.specs.declared.Refusal.{Refusal}
use Rattle.machine.specs.Machines.{observation, same_observation, matched, n_c, n_a, sets_a}
use Rattle.machine.specs.Refusals.{Tested, valid, and_then, pass_on, state_after}
use Rattle.machine.specs.RefusalsLaws.{then_of, then_refused, then_then, valid_if, state_made, state_kept}
use Rattle.machine.specs.WellFormed.{well_formed, nonempty_validity}
use Rattle.machine.specs.WellFormedLaws.{WellPair, well_pair, valid_is_well, entries_small}
use Rattle.machine.specs.EmptySetsLaws.{nonempty_at}
use Rattle.machine.specs.Observed.{matched_masks}
use Rattle.machine.specs.Game.{mem, all_matched, first_family}
use Rattle.machine.specs.Ranks.{rank_table}
use Rattle.machine.specs.Table.{table_room, entries}
use Rattle.theory.specs.GameLaws.{mem_pair_set}
use Rattle.theory.specs.FamilyLaws.{first_at}
use Rattle.theory.specs.RankLaws.{ranks_entries}
use Rattle.rows.specs.SetRowsLaws.{rows_at, matched_rows}
use Rattle.solver.specs.Families.{flat_of, section_of, family_in, turn_rows}
use Rattle.solver.specs.FamilyRowsLaws.{family_at}
use Rattle.solver.specs.Solver.{solve_validity, turned_family, turned_table}
use Rattle.solver.specs.SolverLaws.{solve_long, turned_refused, turned_valid}
use Rattle.progress.specs.Turns.{first_rows, first_answer, first_given, finishes, turn_answer, turn_family, says_finished, turn_table, still_in, range_validity, look_up_answer}
use Rattle.machine.specs.declared.Refusal.TheVariants.{OutOfRange}

-- ---- the first family
module _ (p : Pair) where
  pub first_made : {matched out : List ℕ} → matched ≡ matched_masks p → WellPair p
      → out ≡ table 448 (λ e. cond (ltb (e / 64) (sets_a p)) (get_or matched (e % 64) 0) 0) → out ≡ first_rows p
  unfolding first_rows flat_of first_family
  first_made {matched} {out} em w eo = eo ∙ table_cong 448 _ _ (λ e l. by_cases (dec_lt (e / 64) (sets_a p))
      (λ q. rw (lt-ltb (e / 64) (sets_a p) q) (inside e q))
      (λ q. rw (le-ltb (e / 64) (sets_a p) (omega arith), table_past (sets_a p) (λ j. all_matched p) (e / 64) [] (omega arith))))
    where
      inside : (e : ℕ) → e / 64 < sets_a p → get_or matched (e % 64) 0 ≡ get_or (get_or (first_family p) (e / 64) []) (e % 64) 0
      inside e q =
          ap (λ (l : List ℕ). get_or l (e % 64) 0) (em ∙ matched_rows p w) ∙ rows_at (all_matched p) (e % 64) (omega arith)
          ∙ ap (λ (l : List ℕ). get_or l (e % 64) 0) (sym (first_at p (e / 64) q))

  pub first_given_lem : nonempty_validity p ≡ valid → first_rows p ≡ first_given p
  unfolding first_given
  first_given_lem e = sym (state_made _ _ _ e)

  pub first_given_zeros : {r : Refusal} → nonempty_validity p ≡ Err r → first_given p ≡ replicate 448 0
  unfolding first_given
  first_given_zeros e = state_kept _ _ _ e

  pub first_of : nonempty_validity p ≡ valid → first_answer p ≡ Ok (first_rows p)
  unfolding first_answer
  first_of e = then_of _ _ e

  pub first_refused : {r : Refusal} → nonempty_validity p ≡ Err r → first_answer p ≡ Err r
  unfolding first_answer
  first_refused e = then_refused _ _ _ e

  -- lists of turns begin with what is given, or with zeros beside a refusal
  pub given_or_zeros : result_unwrap_or (first_answer p) (replicate 448 0) ≡ first_given p
  unfolding first_answer first_given and_then pass_on state_after
  given_or_zeros = go (nonempty_validity p)
    where
      go : (v : Tested) → result_unwrap_or (and_then v (Ok (first_rows p))) (replicate 448 0) ≡ state_after v (first_rows p) (replicate 448 0)
      go (Ok t) = refl
      go (Err r) = refl

-- ---- two families, row by row
pub rows_same : (x y : List ℕ) → ((e : ℕ) → e < 448 → get_or x e 0 ≡ get_or y e 0) → every 448 (λ e. eqb (get_or x e 0) (get_or y e 0)) ≡ true
rows_same x y h = every_of 448 _ (λ e l. eq-eqb _ _ (h e l))

-- the solver is lent a table of exactly the room that it asks for
solve_same : (p : Pair) (T : List ℕ) → table_room ≤ length T → solve_validity p (length T) ≡ solve_validity p (length (replicate {A = ℕ} table_room 0))
solve_same p T room = solve_long p (length T) room ∙ sym (solve_long p _ (omega (arith, length-replicate {A = ℕ} table_room 0)))

-- ---- a turn, by what the solver says
module _ (p : Pair) (F T : List ℕ) where
  pub turn_refused : {r : Refusal} → solve_validity p (length T) ≡ Err r
      → (turn_answer p F (length T) ≡ Err r) × (turn_family p F (length T) ≡ F) × (turn_table p F T ≡ T)
  unfolding turn_answer turn_family turn_table says_finished
  turn_refused e = let a = then_refused _ (Ok (finishes p F)) _ e in (a, state_kept _ _ F a, rw a)

  pub turn_taken : solve_validity p (length T) ≡ valid → (turn_answer p F (length T) ≡ Ok (finishes p F)) × (turn_family p F (length T) ≡ turn_rows p F)
  unfolding turn_answer turn_family
  turn_taken e = let a = then_of _ (Ok (finishes p F)) e in (a, state_made _ _ F a)

  pub table_kept : solve_validity p (length T) ≡ valid → finishes p F ≡ false → turn_table p F T ≡ T
  unfolding turn_table says_finished
  table_kept e f = rw ((turn_taken e).0, f)

  pub table_written : solve_validity p (length T) ≡ valid → finishes p F ≡ true
      → turn_table p F T ≡ rank_table p (family_in p F) ++ drop (length (rank_table p (family_in p F))) T
  unfolding turn_table says_finished
  table_written e f = rw ((turn_taken e).0, f)

  -- the entries that are copied from its table are the ranks
  pub copied : {U : List ℕ} {n : ℕ} → solve_validity p (length T) ≡ valid → table_room ≤ length T → U ≡ turned_table p F (replicate table_room 0)
      → finishes p F ≡ true → n ≡ entries p → front n (λ e. get_or U e 0) T ≡ turn_table p F T
  copied {U} {n} e room eu f en =
      let R : List ℕ = rank_table p (family_in p F) in
      let made : U ≡ R ++ drop (length R) (replicate table_room 0) = eu ∙ sym (turned_valid p F (replicate table_room 0) (sym (solve_same p T room) ∙ e)).1 in
      let whole : table n (λ i. get_or U i 0) ≡ R =
      sym (fill_done 0 n R (λ i. get_or U i 0) (ranks_entries p (family_in p F) ∙ sym en) (λ i l. sym (ap (λ (l : List ℕ). get_or l i 0) made
      ∙ get_or-append R (drop (length R) (replicate table_room 0)) 0 i (omega (arith, ranks_entries p (family_in p F)))))) in
      ap₂ (λ (l : List ℕ) (k : ℕ). l ++ drop k T) whole (en ∙ sym (ranks_entries p (family_in p F))) ∙ sym (table_written e f)

-- ---- a turn, by what `solver::turn_family` says of the family and leaves in a table of exactly the room that it asks for
module _ (p : Pair) (F T : List ℕ) (room : table_room ≤ length T) {v : Tested} {G : List ℕ}
    (told : v ≡ solve_validity p (length (replicate {A = ℕ} table_room 0))) (made : G ≡ turned_family p F (length (replicate {A = ℕ} table_room 0))) where
  pub turn_stopped : {r : Refusal} → v ≡ Err r → (Err r ≡ turn_answer p F (length T)) × ((G ≡ turn_family p F (length T)) × (T ≡ turn_table p F T))
  turn_stopped q =
      let e = sym told ∙ q in
      let k = turn_refused p F T (solve_same p T room ∙ e) in
      (sym k.0, (made ∙ sym (turned_refused p F (replicate table_room 0) _ e).0 ∙ sym k.1, sym k.2))

  module _ (q : v ≡ valid) where
    solves : solve_validity p (length T) ≡ valid
    solves = solve_same p T room ∙ sym told ∙ q

    next_is : G ≡ turn_rows p F
    next_is = made ∙ sym (turned_valid p F (replicate table_room 0) (sym told ∙ q)).0

    pub turn_well : well_formed p ≡ true
    turn_well = valid_is_well p (nonempty_at p (sym (solve_long p (length T) room) ∙ solves)).0

    -- n entries are copied: all where the turn is finished, and else none
    pub turn_made : {U T' : List ℕ} {b : Bool} {n : ℕ} → U ≡ turned_table p F (replicate table_room 0) → b ≡ every 448 (λ e. eqb (get_or F e 0) (get_or G e 0))
        → ((b ≡ true) × (n ≡ entries p)) ⊎ ((b ≡ false) × (n ≡ 0)) → T' ≡ front n (λ e. get_or U e 0) T
        → (Ok b ≡ turn_answer p F (length T)) × ((G ≡ turn_family p F (length T)) × (T' ≡ turn_table p F T))
    unfolding finishes
    turn_made {U} {T'} {b} {n} eu eb en et =
        let k = turn_taken p F T solves in
        let f : b ≡ finishes p F = eb ∙ ap (λ (l : List ℕ). every 448 (λ e. eqb (get_or F e 0) (get_or l e 0))) next_is in (
          ap Ok f ∙ sym k.0,
          (
            next_is ∙ sym k.1,
            et ∙ ⊎_elim
                (λ w. copied p F T solves room eu (sym f ∙ w.0) w.1)
                (λ w. ap (λ (i : ℕ). front i (λ e. get_or U e 0) T) w.1 ∙ sym (front_none _ T) ∙ sym (table_kept p F T solves (sym f ∙ w.0))) en,
          ),
        )

    pub copied_small : {b : Bool} {n : ℕ} → ((b ≡ true) × (n ≡ entries p)) ⊎ ((b ≡ false) × (n ≡ 0)) → n ≤ table_room
    copied_small en = ⊎_elim (λ w. omega (arith, w.1, entries_small p (well_pair p turn_well))) (λ w. omega (arith, w.1)) en

-- n entries of U, copied into the front of T
pub copied_front : (n : ℕ) (U T : List ℕ) → n ≤ length U → {W : List ℕ} → W ≡ take n U → W ++ drop n T ≡ front n (λ e. get_or U e 0) T
copied_front n U T h e =
    ap (λ (l : List ℕ). l ++ drop n T) (e ∙ fill_done 0 n (take n U) (λ e. get_or U e 0) (length-take-le n U h) (λ k l. get_or-take n U k 0 l))

-- ---- the look-up
-- what `and` says of two tests
both_told : (a b : Tested) → and_then a b ≡ result_and a b
unfolding and_then pass_on
both_told (Ok t) b = refl
both_told (Err r) b = refl

pub tests_told : {a b t x y : Tested} → a ≡ x → b ≡ y → t ≡ result_and a b → and_then x y ≡ t
tests_told {a} {b} e f g = ap₂ and_then (sym e) (sym f) ∙ both_told a b ∙ sym g

module _ (p : Pair) (j c a : ℕ) where
  range_out : and (and (leb 1 j) (leb j (sets_a p))) (and (ltb c (n_c p)) (ltb a (n_a p))) ≡ false → range_validity p j c a ≡ Err OutOfRange
  unfolding range_validity
  range_out e = rw e

  pub below_sections : j < 1 → range_validity p j c a ≡ Err OutOfRange
  below_sections h = range_out (and_false_l _ (and_false_l _ (lt-leb 1 j h)))

  pub above_sections : sets_a p < j → range_validity p j c a ≡ Err OutOfRange
  above_sections h = range_out (and_false_l _ (and_false_r _ (lt-leb j (sets_a p) h)))

  pub above_concrete : n_c p ≤ c → range_validity p j c a ≡ Err OutOfRange
  above_concrete h = range_out (and_false_r _ (and_false_l _ (le-ltb c (n_c p) h)))

  pub above_abstract : n_a p ≤ a → range_validity p j c a ≡ Err OutOfRange
  above_abstract h = range_out (and_false_r _ (and_false_r _ (le-ltb a (n_a p) h)))

  pub in_range_lem : 1 ≤ j → j ≤ sets_a p → c < n_c p → a < n_a p → range_validity p j c a ≡ valid
  unfolding range_validity
  in_range_lem lo hi hc ha = rw (and_i (and_i (le-leb 1 j lo) (le-leb j (sets_a p) hi)) (and_i (lt-ltb c (n_c p) hc) (lt-ltb a (n_a p) ha)))

  pub range_at : range_validity p j c a ≡ valid → ((1 ≤ j) × (j ≤ sets_a p)) × ((c < n_c p) × (a < n_a p))
  unfolding range_validity
  range_at e =
      let t = (valid_if _ _ _ e).0 in
      let s = and_l _ _ t in
      let q = and_r _ _ t in
      ((leb-true 1 j (and_l _ _ s), leb-true j (sets_a p) (and_r _ _ s)), (ltb-true c (n_c p) (and_l _ _ q), ltb-true a (n_a p) (and_r _ _ q)))

  -- the tests in their order decide the answer
  module _ (F : List ℕ) where
    pub looked_stopped : {r : Refusal} → nonempty_validity p ≡ Err r → look_up_answer p F j c a ≡ Err r
    unfolding look_up_answer
    looked_stopped e = then_refused _ _ _ e

    pub looked_refused : {r : Refusal} → and_then (nonempty_validity p) (range_validity p j c a) ≡ Err r → look_up_answer p F j c a ≡ Err r
    unfolding look_up_answer
    looked_refused e = sym (then_then (nonempty_validity p) (range_validity p j c a) _) ∙ then_refused _ _ _ e

    pub looked_up : and_then (nonempty_validity p) (range_validity p j c a) ≡ valid → look_up_answer p F j c a ≡ Ok (still_in p F (j - 1) c a)
    unfolding look_up_answer
    looked_up e = sym (then_then (nonempty_validity p) (range_validity p j c a) _) ∙ then_of _ _ e

-- a pair is still in where it is matched and its bit is set
pub still_in_is : (p : Pair) → WellPair p → (F : List ℕ) (j c a : ℕ) → j < sets_a p → c < n_c p → a < n_a p
    → still_in p F j c a ≡ and (matched p c a) (has_bit (get_or F (j * 64 + c) 0) a)
unfolding still_in mem section_of
still_in_is p w F j c a hj hc ha =
    ap (λ (S : List ℕ). has_bit (get_or S c 0) a) (family_at p w F j hj) ∙ mem_pair_set p (mem p (section_of F j)) c a hc ha
    ∙ ap (λ (m : ℕ). and (matched p c a) (has_bit m a)) (table_at 64 (λ i. get_or F (j * 64 + i) 0) c 0 (omega (arith, w.concrete.states_high)))

module _ (p : Pair) (w : WellPair p) (F : List ℕ) (j c a : ℕ) (hj : j < sets_a p) (hc : c < n_c p) (ha : a < n_a p) {same : Bool}
    (compared : same ≡ same_observation p.hidden (get_or p.concrete.observations c 0) (get_or p.abstraction.observations a 0)) where
  pub unmatched_out : same ≡ false → false ≡ still_in p F j c a
  unfolding matched observation
  unmatched_out t = sym (still_in_is p w F j c a hj hc ha ∙ and_false_l _ (sym compared ∙ t))

  pub matched_bit : same ≡ true → has_bit (get_or F (j * 64 + c) 0) a ≡ still_in p F j c a
  unfolding matched observation
  matched_bit t = sym (still_in_is p w F j c a hj hc ha ∙ and_true_l _ (sym compared ∙ t))
