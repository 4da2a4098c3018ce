-- The single step names the chosen partner: keys of different entries are ordered as the entries are, and of equal entries the present state has the
-- lower key.
use Rattle.std.specs.Prelude.{Bool, true, false, List, ◌≡◌, refl, ℕ, ◌+◌, ◌*◌, ◌^◌, ◌≤◌, ◌<◌, None, Some}
use Rattle.std.proofs.Common.{⊎_elim, sym, ◌∙◌, arith, eq-eqb, ne_eqb}
use Rattle.std.proofs.Math.Logic.{by_cases}
use Rattle.std.proofs.Math.Path.{ap}
use Rattle.std.proofs.Math.Decide.{dec_lt, ℕ_discrete}
use Rattle.std.specs.Int.Bits.{bit_and}
use Rattle.mask.specs.LogicLaws.{clash, refute, and_l, and_r, and_i}
use Rattle.mask.specs.Bits.{has_bit, lowest_of}
use Rattle.mask.specs.BitsLaws.{has_lt, has_and}
use Rattle.mask.specs.Bounded.{some_in}
use Rattle.mask.specs.BoundedLaws.{some_in_of}
use Rattle.machine.specs.Step.{partner, staying, single_step, alike, in_row, found, state_of}
use Rattle.machine.specs.PartnerLaws.{partner_is, partner_none, partner_found, partner_view, partner_at, found_state, partner_below, partner_lowest, partner_nobody, within, found_row}
use Rattle.machine.specs.SingleStep.{Candidate, Best, Chosen, Names, NamesChosen, FoundAnywhere}

-- ---- the key
module _ (present : ℕ) (entries : ℕ → ℕ) where
  abbrev Key : ℕ → ℕ
  Key = staying present entries

  pub staying_here : (a : ℕ) → a ≡ present → Key a ≡ 2 * entries a
  unfolding staying
  staying_here a e = rw (eq-eqb a present e) (omega arith)

  pub staying_away : (a : ℕ) → (a ≡ present → ⊥) → Key a ≡ 2 * entries a + 1
  unfolding staying
  staying_away a n = rw (ne_eqb a present n)

  pub staying_low : (a : ℕ) → 2 * entries a ≤ Key a
  staying_low a = by_cases (ℕ_discrete a present) (λ e. omega (arith, staying_here a e)) (λ n. omega (arith, staying_away a n))

  pub staying_high : (a : ℕ) → Key a ≤ 2 * entries a + 1
  staying_high a = by_cases (ℕ_discrete a present) (λ e. omega (arith, staying_here a e)) (λ n. omega (arith, staying_away a n))

  module _ (moves : ℕ) (S : ℕ → Bool) where
    -- ---- whether there is one does not depend on the present state
    pub single_found : found (single_step present moves S entries) ≡ some_in 64 moves S
    unfolding single_step
    single_found = partner_found moves S Key

    -- ---- of least key, the lowest of these, is the chosen one
    chosen_of : (a : ℕ) → Best moves S Key a → Chosen present moves S entries a
    chosen_of a b = record {
      candidate = b.candidate;
      least = λ i c. omega (arith, b.least i c, staying_low a, staying_high i);
      stays = λ c l. by_cases (ℕ_discrete a present) (λ e. e) (λ n. absurd (omega (arith, b.least present c, staying_away a n, staying_here present refl)));
      lowest = λ n i l c. omega (arith, b.lowest i l c, staying_away a n, staying_high i);
    }

    best_of : (a : ℕ) → Chosen present moves S entries a → Best moves S Key a
    best_of a c = record { candidate = c.candidate; least = keyed; lowest = first }
      where
        -- where a is not the present state, that one has a greater entry if it is a candidate
        greater : (a ≡ present → ⊥) → Candidate moves S present → entries a < entries present
        greater n k = by_cases (dec_lt (entries a) (entries present)) (λ l. l) (λ l. absurd (n (c.stays k (omega arith))))

        keyed : (i : ℕ) → Candidate moves S i → Key a ≤ Key i
        keyed i k = by_cases (ℕ_discrete a present) (λ e. omega (arith, staying_here a e, c.least i k, staying_low i))
            (λ n. by_cases (ℕ_discrete i present)
            (λ e. omega (arith, staying_away a n, staying_here i e, greater n (rw e at k), ap entries e)) (λ m. omega (arith, staying_away a n, staying_away i m, c.least i k)))

        first : (i : ℕ) → i < a → Candidate moves S i → Key a < Key i
        first i l k = by_cases (ℕ_discrete a present)
            (λ e. omega (arith, staying_here a e, staying_away i (λ f. omega arith), c.least i k)) (λ n. omega (arith, staying_away a n, c.lowest n i l k, staying_low i))

    pub names : Names present moves S entries
    unfolding single_step found
    names = record {
      chosen = λ a. (λ e. chosen_of a (partner_at moves S Key a e), λ c. partner_is moves S Key a (best_of a c));
      nobody = (
        λ e i c. clash (sym (partner_found moves S Key) ∙ ap found e) (some_in_of 64 moves S i c.below c.moved c.inside),
        λ none. partner_none moves S Key (λ i h t. refute (S i) (λ u. none i (record { below = h; moved = t; inside = u }))),
      );
      width = λ w few fits a e. has_lt w moves a fits (partner_at moves S Key a e).candidate.moved;
    }

    -- ---- the present state is named if it is a candidate and none is better, else the lowest state b of least entry
    pub single_stays : Candidate moves S present → ((i : ℕ) → Candidate moves S i → entries present ≤ entries i) → single_step present moves S entries ≡ Some present
    single_stays here least = (names.chosen present).1 (record { candidate = here; least = least; stays = λ c k. refl; lowest = λ n. absurd (n refl) })

    pub single_leaves : (b : ℕ) → Best moves S entries b → (Candidate moves S present → entries b < entries present) → single_step present moves S entries ≡ Some b
    single_leaves b best worse = (names.chosen b).1 (record {
      candidate = best.candidate;
      least = best.least;
      stays = λ c k. absurd (omega (arith, worse c));
      lowest = λ n. best.lowest;
    })

    pub single_nobody : partner moves S entries ≡ None → single_step present moves S entries ≡ None
    unfolding found
    single_nobody e = names.nobody.1 (λ i c. clash (sym (partner_found moves S entries) ∙ ap found e) (some_in_of 64 moves S i c.below c.moved c.inside))

    -- where the present state is no candidate, the lowest number of least entry is named
    pub single_away : (Candidate moves S present → ⊥) → single_step present moves S entries ≡ partner moves S entries
    single_away out =
        ⊎_elim (λ v. single_leaves v.0 v.2 (λ c. absurd (out c)) ∙ sym v.1) (λ v. single_nobody v.0 ∙ sym v.0) (partner_view moves S entries)

    -- what is named where there is one
    pub chosen_named : found (single_step present moves S entries) ≡ true → Chosen present moves S entries (state_of (single_step present moves S entries))
    chosen_named t = (names.chosen _).0 (found_state _ t)

pub names_chosen : NamesChosen
names_chosen present moves S entries = names present entries moves S

pub found_anywhere : FoundAnywhere
found_anywhere moves S entries a b = single_found a entries moves S ∙ sym (single_found b entries moves S)

-- before the first state none is present, which a number from 64 on says: no state has it
pub single_none : (present moves : ℕ) (S : ℕ → Bool) (entries : ℕ → ℕ) → 64 ≤ present → single_step present moves S entries ≡ partner moves S entries
single_none present moves S entries h = single_away present entries moves S (λ c. omega (arith, c.below))

-- among moves to numbers below n only what the set and the entries are there counts
pub single_below : (present moves n : ℕ) (S R : ℕ → Bool) (entries others : ℕ → ℕ) → ((i : ℕ) → i < 64 → has_bit moves i ≡ true → i < n)
    → ((i : ℕ) → i < n → S i ≡ R i) → ((i : ℕ) → i < n → entries i ≡ others i) → single_step present moves S entries ≡ single_step present moves R others
unfolding single_step staying
single_below present moves n S R entries others moved set same =
    partner_below moves n S R (staying present entries) (staying present others) moved set (λ i h. rw (same i h))

-- ---- a set that is a mask
module _ (present moves row : ℕ) (h : moves < 2 ^ 64) where
  pub mask_stays : has_bit (bit_and moves row) present ≡ true → single_step present moves (has_bit row) alike ≡ Some present
  mask_stays t =
      let bits = sym (has_and present moves row) ∙ t in
      single_stays present alike moves (has_bit row)
      (record { below = has_lt 64 moves present h (and_l _ _ bits); moved = and_l _ _ bits; inside = and_r _ _ bits }) (λ i c. omega arith)

  pub mask_nobody : bit_and moves row ≡ 0 → single_step present moves (has_bit row) alike ≡ None
  mask_nobody e = single_nobody present alike moves (has_bit row) (partner_nobody moves row h e)

  pub mask_lowest : (bit_and moves row ≡ 0 → ⊥) → has_bit (bit_and moves row) present ≡ false → single_step present moves (has_bit row) alike ≡ Some (lowest_of 64 (bit_and moves row))
  mask_lowest d t = single_away present alike moves (has_bit row) (λ c. clash t (has_and present moves row ∙ and_i c.moved c.inside)) ∙ partner_lowest moves row h d

-- ---- a set that is given by its entries and a bound
pub single_row : (present moves matched : ℕ) (row : List ℕ) (bound : ℕ) (entries : ℕ → ℕ)
    → found (single_step present moves (in_row matched row bound) entries) ≡ some_in 64 (bit_and moves matched) (within row bound)
unfolding single_step
single_row present moves matched row bound entries = found_row moves matched row bound (staying present entries)
