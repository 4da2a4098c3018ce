-- Laws of a scan of all states that keeps the best one so far, and of the player's places.
use Rattle.std.specs.Prelude.{Bool, false, true, cond, not, List, ◌≡◌, refl, eqb, length, Err, None, Ok, Option, Some, is_some, unwrap_or, ℕ}
use Rattle.std.proofs.Math.Logic.{by_cases}
use Rattle.std.proofs.Common.{⊎_elim, ◌∙◌, sym, eq-eqb, eqb-true, le-ltb, lt-ltb, ne_eqb}
use Prim.Native.Nat.{◌*◌, ◌+◌, ◌-◌, ◌<◌, ◌≤◌, suc, zero, ℕ}
use Rattle.std.proofs.Math.Decide.{dec_lt}
use Rattle.std.proofs.Math.Nat.{le_of_lt}
use Rattle.std.proofs.Math.Numerals.{add-one}
use native.Mathlib.Omega.{arith}
use mir.Val.{bool_byte}
use Rattle.mask.specs.Bounded.{below, first, some}
use Rattle.mask.specs.BoundedLaws.{first_before, first_has, is_below, some_none, some_of}
use Rattle.mask.specs.Logic.{and}
use Rattle.mask.specs.LogicLaws.{both, dec}
use Rattle.std.specs.Option.{ok_or, option_eq}
use Rattle.machine.specs.Lassos.{Lasso, moment}
use Rattle.machine.specs.Lines.{non_blank}
use Rattle.machine.specs.LinesLaws.{covers_at}
use Rattle.machine.specs.Machines.{moves, sets_a, successors}
use Rattle.machine.specs.PartnerLaws.{better_in, better_out, least_miss, least_step, limit_of, partner_view}
use Rattle.machine.specs.Player.{Place, earlier_round, follow, last_round, loop_length, loop_start, place_at, play_validity, same_place, section_after, start_partner, stem_length, step_to, play_answer}
use Rattle.machine.specs.Refusals.{valid}
use Rattle.machine.specs.RefusalsLaws.{then_of, then_refused}
use Rattle.machine.specs.Step.{least, partner, present_of, staying, single_step, state_of}
use Rattle.machine.specs.Table.{blank, covers, entry}
use Rattle.machine.specs.PlayerLaws.{section_lt}
use Rattle.machine.specs.declared.Pair.{Pair}
use Rattle.machine.specs.declared.Refusal.{Refusal}

-- the best of the states below n that pass q, and what a later one has to stay below: before there is one, the keys up to the bound
pub record Scanned (q : ℕ → Bool) (key : ℕ → ℕ) (bound n : ℕ) (best : (Option ℕ)) (limit : ℕ) : Type 0 where
  pub best_is : least n q key ≡ best
  pub limit_is : limit ≡ limit_of key bound best
  pub limit_le : limit ≤ bound + 1

module _ (q : ℕ → Bool) (key : ℕ → ℕ) (bound : ℕ) where
  pub scan_start : Scanned q key bound 0 None (bound + 1)
  unfolding least limit_of
  scan_start = record { best_is = refl; limit_is = refl; limit_le = omega arith }

  module _ (n : ℕ) (best : (Option ℕ)) (limit : ℕ) (d : Scanned q key bound n best limit) where
    pub scan_take : q n ≡ true → key n < limit → Scanned q key bound (n + 1) (Some n) (key n)
    unfolding limit_of
    scan_take t h = record {
      best_is = rw add-one (least_step q key n best d.best_is t ∙ rw (better_in key bound best n (rw d.limit_is at h)));
      limit_is = refl;
      limit_le = omega (arith, d.limit_le);
    }

    pub scan_miss : q n ≡ false → Scanned q key bound (n + 1) best limit
    scan_miss t = record { best_is = rw add-one (least_miss q key n t ∙ d.best_is); limit_is = d.limit_is; limit_le = d.limit_le }

    pub scan_keep : (q n ≡ true → key n ≤ bound) → limit ≤ key n → Scanned q key bound (n + 1) best limit
    scan_keep s h = ⊎_elim
        (λ t. record {
          best_is = rw add-one (least_step q key n best d.best_is t ∙ rw (better_out key bound best n (rw d.limit_is at h) (s t)));
          limit_is = d.limit_is;
          limit_le = d.limit_le;
        })
        (λ t. scan_miss t) (dec (q n))

-- whether a state is the present one, as code asks for it
pub present_told : (o : Option ℕ) (a : ℕ) → a < 64 → option_eq eqb o (Some a) ≡ eqb a (present_of o)
unfolding present_of
present_told (Some b) a h = both _ _ (λ t. eq-eqb a b (sym (eqb-true b a t))) (λ t. eq-eqb b a (sym (eqb-true a b t)))
present_told None a h = sym (ne_eqb a 64 (λ e. omega arith))

-- the key from whether a state is another than the present one
pub key_told : (o : Option ℕ) (a e : ℕ) (b : Bool) → a < 64 → b ≡ not (option_eq eqb o (Some a)) → 2 * e + bool_byte b ≡ staying (present_of o) (λ _. e) a
unfolding staying
key_told o a e b h t = rw (t, present_told o a h) (go (eqb a (present_of o)))
  where
    go : (c : Bool) → 2 * e + bool_byte (not c) ≡ 2 * e + cond c 0 1
    go true = refl
    go false = refl

-- the key of a state from its entry
pub keyed : (present : ℕ) (entries : ℕ → ℕ) (a e key : ℕ) → e ≡ entries a → key ≡ staying present (λ _. e) a → key ≡ staying present entries a
unfolding staying
keyed present entries a e key h k = k ∙ rw h

-- what is not blank is below it
pub entry_below : (p : Pair) (T : List ℕ) (j c a : ℕ) → entry p T j c a ≤ blank → covers p T j c a ≡ true → entry p T j c a < blank
entry_below p T j c a s t =
    by_cases (dec_lt (entry p T j c a) blank) (λ l. l) (λ l. absurd (covers_at p T j c a t (omega arith)))

-- ---- places stay within the abstract machine's 64 states and its sections
pub state_small : (moves : ℕ) (S : ℕ → Bool) (key : ℕ → ℕ) → state_of (partner moves S key) < 64
state_small moves S key = ⊎_elim (λ v. rw v.1 v.2.candidate.below) (λ v. rw v.0 (omega arith)) (partner_view moves S key)

module _ (p : Pair) (T : List ℕ) where
  pub record Placed (at : Place) : Type 0 where
    pub state_in : at.state ≤ 64
    pub section_in : at.section < sets_a p

  pub step_is : (c d moves : ℕ) (at : Place) (found : (Option ℕ)) (j : ℕ) → j ≡ section_after p T c at → moves ≡ successors p.abstraction at.state
      → found ≡ single_step at.state moves (non_blank p T j d) (entry p T j d) → record { state = state_of found; section = j } ≡ step_to p T c at d
  unfolding step_to follow
  step_is c d moves at found j ej em ef = rw (ef, em, ej)

  pub step_placed : (c d : ℕ) (at : Place) → Placed at → Placed (step_to p T c at d)
  unfolding step_to follow single_step
  step_placed c d at h = record { state_in = le_of_lt (state_small _ _ _); section_in = section_lt p T c at h.section_in }

  module _ (l : Lasso) where
    pub place_start : (found : (Option ℕ)) → found ≡ start_partner p T (moment l 0) → record { state = state_of found; section = 0 } ≡ place_at p T l 0
    unfolding place_at
    place_start found e = rw e

    pub place_next : (t : ℕ) (at : Place) → at ≡ place_at p T l t → step_to p T (moment l t) at (moment l (suc t)) ≡ place_at p T l (suc t)
    unfolding place_at
    place_next t at e = rw e

    pub placed : 0 < sets_a p → (t : ℕ) → Placed (place_at p T l t)
    unfolding place_at start_partner
    placed h zero = record { state_in = le_of_lt (state_small _ _ _); section_in = h }
    placed h (suc t) = step_placed (moment l t) (moment l (suc t)) (place_at p T l t) (placed h t)

-- ---- rounds
module _ (p : Pair) (T : List ℕ) (l : Lasso) where
  module _ (x y : ℕ) (u v : Place) (eu : u ≡ place_at p T l (loop_start p T l x)) (ev : v ≡ place_at p T l (loop_start p T l y)) where
    pub place_told : same_place p T l x y ≡ and (eqb u.state v.state) (eqb u.section v.section)
    unfolding same_place
    place_told = rw (← eu, ← ev)

-- what a search answers, with its end where there is none
pub or_end : (n i : ℕ) → i ≤ n → unwrap_or (below n i) n ≡ i
unfolding below
or_end n i h = by_cases (dec_lt i n) (λ l. rw (lt-ltb i n l)) (λ l. rw (le-ltb i n (omega arith)) (omega arith))

-- there is a first exactly if there is one
pub some_found : (n : ℕ) (q : ℕ → Bool) → is_some (below n (first n q)) ≡ some n q
some_found n q =
    is_below n _
    ∙ by_cases (dec_lt (first n q) n) (λ l. lt-ltb _ n l ∙ sym (some_of n q _ l (first_has n q l)))
    (λ l. le-ltb _ n (omega arith) ∙ sym (some_none n q (λ i k. first_before n q i (omega arith))))

-- ---- what a partner that is asked for says
pub nobody_told : (o : Option ℕ) (s r : Refusal) → ok_or o s ≡ Err r → (o ≡ None) × (s ≡ r)
nobody_told (Some a) s r e = (cc, cc)
nobody_told None s r e = (refl, cc)

pub somebody_told : (o : Option ℕ) (s : Refusal) (a : ℕ) → ok_or o s ≡ Ok a → o ≡ Some a
somebody_told (Some b) s a e = cc
somebody_told None s a e = cc

-- ---- the answer
module _ (p : Pair) (T : List ℕ) (l : Lasso) where
  pub played_refused : (r : Refusal) → play_validity p T l ≡ Err r → play_answer p T l ≡ Err r
  unfolding play_answer
  played_refused r e = then_refused _ _ r e

  pub played_run : play_validity p T l ≡ valid → (x y : ℕ) → y ≡ last_round p T l → x ≡ first y (λ x. same_place p T l x y)
      → play_answer p T l ≡ Ok (record { stem = loop_start p T l x; cycle = (y - x) * length l.loop })
  unfolding play_answer stem_length loop_length earlier_round
  played_run v x y ey ex = then_of _ _ v ∙ rw (← ey, ← ex)
