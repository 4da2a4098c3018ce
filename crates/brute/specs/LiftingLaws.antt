-- Laws of lifting: one turn at a time, and that entries past n × P are neither looked at nor changed.
use Rattle.std.specs.Prelude.{Bool, cond, false, true, ◌≡◌, get_or, set, Err}
use mathlib.Core.List.{List, ◌++◌}
use Rattle.std.proofs.Common.{◌∙◌, div-lt_iff_lt-mul, mod-lt, add-one, arith, le-ltb, lt-ltb}
use Rattle.std.proofs.Math.Path.{ap, refl, sym}
use Prim.Native.Nat.{◌%◌, ◌*◌, ◌+◌, ◌/◌, ◌<◌, ◌≤◌, suc, zero, ℕ}
use Rattle.std.proofs.Math.ListN.{get_or-append, drop, length, length-replicate, length-set, replicate}
use Rattle.std.proofs.Math.Seq.{set-append_left}
use Rattle.mask.specs.LogicLaws.{cond_cases, refute}
use Rattle.machine.specs.EntriesLaws.{each_same, front_same, passes_same}
use Rattle.machine.specs.Lines.{lines_validity, passes, passes_each}
use Rattle.machine.specs.LinesLaws.{lines_valid, valid_passes}
use Rattle.machine.specs.Machines.{n_a, n_c, pairs, sets_a, sets_c}
use Rattle.machine.specs.Refusals.{valid}
use Rattle.machine.specs.RefusalsLaws.{buffer_kept, buffer_made, buffer_short, buffer_valid, refused_not_answer, then_of, then_refused}
use Rattle.machine.specs.Table.{blank, entries, table_room}
use Rattle.machine.specs.WellFormed.{pair_validity}
use Rattle.machine.specs.WellFormedLaws.{WellPair, entries_small, mul_bound, ranks_small, some_pairs, well_valid}
use Rattle.machine.specs.declared.Pair.{Pair}
use Rattle.machine.specs.declared.Refusal.{Refusal}
use Rattle.brute.specs.Lifting.{entry_passes, lifted, lifted_at, lifted_entries, lifted_table, raised, swept}

-- ---- one entry
pub raised_more : (most r : ℕ) → r < most → r + 1 ≡ raised most r
unfolding raised
raised_more most r h = rw (lt-ltb r most h)

pub raised_blank : (most r : ℕ) → most ≤ r → blank ≡ raised most r
unfolding raised
raised_blank most r h = rw (le-ltb r most h)

-- the section, c and a of entry number e
pub record Located (p : Pair) (e : ℕ) : Type 0 where
  pub in_section : e / pairs p < sets_a p
  pub in_row_lem : e % pairs p / n_a p < n_c p
  pub in_column : e % n_a p < n_a p

pub located : (p : Pair) → WellPair p → (e : ℕ) → e < entries p → Located p e
located p w e h = record {
  in_section = (div-lt_iff_lt-mul (some_pairs p w)).1 h;
  in_row_lem = (div-lt_iff_lt-mul w.abstraction.states_low).1 (mod-lt e (some_pairs p w));
  in_column = mod-lt e w.abstraction.states_low;
}

module _ (p : Pair) (e : ℕ) (T : List ℕ) where
  pub lifted_passing : passes p T (e / pairs p) (e % pairs p / n_a p) (e % n_a p) ≡ true → T ≡ lifted_at p e T
  unfolding lifted_at entry_passes
  lifted_passing t = rw t

  pub lifted_failing : {v : ℕ} → passes p T (e / pairs p) (e % pairs p / n_a p) (e % n_a p) ≡ false → v ≡ raised (sets_c p * pairs p) (get_or T e 0)
      → set T e v ≡ lifted_at p e T
  unfolding lifted_at entry_passes
  lifted_failing t q = rw (t, q)

-- ---- all entries
module _ (p : Pair) (T : List ℕ) where
  pub swept_none : T ≡ swept p 0 T
  unfolding swept
  swept_none = refl

  pub swept_next : {S S' : List ℕ} (e : ℕ) → S ≡ swept p e T → S' ≡ lifted_at p e S → S' ≡ swept p (e + 1) T
  unfolding swept
  swept_next e q r = rw (add-one, r, q)

-- ---- until each line passes
-- how often the entries are swept at most
pub turns_small : (p : Pair) → WellPair p → entries p * (sets_c p * pairs p + 2) ≤ table_room * 32770
turns_small p w = mul_bound (entries p) (sets_c p * pairs p + 2) table_room 32770 (entries_small p w) (omega (arith, ranks_small p w))

module _ (p : Pair) (T : List ℕ) where
  pub lifted_none : (n : ℕ) → n ≡ 0 → lifted p n T ≡ T
  unfolding lifted
  lifted_none n e = rw e

  pub lifted_done : (n : ℕ) → lines_validity p T ≡ valid → lifted p n T ≡ T
  unfolding lifted
  lifted_done zero e = refl
  lifted_done (suc n) e = rw (valid_passes p T e)

  fails : (r : Refusal) → lines_validity p T ≡ Err r → passes_each p T ≡ false
  fails r e = refute _ (λ t. refused_not_answer (sym e ∙ lines_valid p T t))

  pub lifted_next : {S : List ℕ} (n k : ℕ) (r : Refusal) → lines_validity p T ≡ Err r → S ≡ swept p (entries p) T → n ≡ suc k
      → lifted p k S ≡ lifted p n T
  unfolding lifted
  lifted_next n k r e q h = rw (q, h, fails r e)

-- ---- entries past n × P: A has the n × P entries, R comes after them
cond_front : (b : Bool) (X Y R : List ℕ) → cond b (X ++ R) (Y ++ R) ≡ cond b X Y ++ R
cond_front true X Y R = refl
cond_front false X Y R = refl

module _ (p : Pair) where
  lifted_at_length : (e : ℕ) (T : List ℕ) → length (lifted_at p e T) ≡ length T
  unfolding lifted_at
  lifted_at_length e T = cond_cases (entry_passes p e T) (λ (l : List ℕ). length l ≡ length T) _ _ (λ t. refl) (λ t. length-set T e _)

  swept_length : (n : ℕ) (T : List ℕ) → length (swept p n T) ≡ length T
  unfolding swept
  swept_length zero T = refl
  swept_length (suc n) T = lifted_at_length n (swept p n T) ∙ swept_length n T

  lifted_length : (n : ℕ) (T : List ℕ) → length (lifted p n T) ≡ length T
  unfolding lifted
  lifted_length zero T = refl
  lifted_length (suc n) T = cond_cases (passes_each p T) (λ (l : List ℕ). length l ≡ length T) _ _ (λ t. refl)
      (λ t. lifted_length n (swept p (entries p) T) ∙ swept_length (entries p) T)

  module _ (w : WellPair p) (R : List ℕ) where
    passes_front : (A : List ℕ) → entries p ≤ length A → (e : ℕ) → e < entries p → entry_passes p e (A ++ R) ≡ entry_passes p e A
    unfolding entry_passes
    passes_front A h e l =
        let q = located p w e l in
        passes_same p (A ++ R) A (front_same p A R h) _ _ _ q.in_section q.in_row_lem q.in_column

    lifted_at_front : (A : List ℕ) → entries p ≤ length A → (e : ℕ) → e < entries p → lifted_at p e (A ++ R) ≡ lifted_at p e A ++ R
    unfolding lifted_at
    lifted_at_front A h e l =
        rw (passes_front A h e l, get_or-append A R 0 e (omega arith), set-append_left A R e (raised (sets_c p * pairs p) (get_or A e 0)) (omega arith))
        (cond_front (entry_passes p e A) A _ R)

    swept_front : (A : List ℕ) → entries p ≤ length A → (n : ℕ) → n ≤ entries p → swept p n (A ++ R) ≡ swept p n A ++ R
    unfolding swept
    swept_front A h zero l = refl
    swept_front A h (suc n) l =
        ap (lifted_at p n) (swept_front A h n (omega arith)) ∙ lifted_at_front (swept p n A) (rw (swept_length n A) h) n (omega arith)

    lifted_front : (n : ℕ) (A : List ℕ) → entries p ≤ length A → lifted p n (A ++ R) ≡ lifted p n A ++ R
    unfolding lifted
    lifted_front zero A h = refl
    lifted_front (suc n) A h =
        rw (each_same p (A ++ R) A (front_same p A R h), swept_front A h (entries p) (omega arith), lifted_front n (swept p (entries p) A) (rw (swept_length (entries p) A) h))
        (cond_front (passes_each p A) A _ R)

-- ---- the answer, case by case
module _ (p : Pair) (T : List ℕ) where
  pub lifted_short : length T < table_room → T ≡ lifted_table p T
  unfolding lifted_table
  lifted_short h = sym (buffer_kept _ _ T (then_refused _ _ _ (buffer_short table_room (length T) h)))

  module _ (h : table_room ≤ length T) where
    pub lifted_ill : (r : Refusal) → pair_validity p ≡ Err r → T ≡ lifted_table p T
    unfolding lifted_table
    lifted_ill r e = sym (buffer_kept _ _ T (then_of _ _ (buffer_valid table_room (length T) h) ∙ e))

    pub lifted_well : {Z S : List ℕ} → pair_validity p ≡ valid → Z ≡ replicate (entries p) 0 ++ drop (entries p) T
        → S ≡ lifted p (entries p * (sets_c p * pairs p + 2)) Z → S ≡ lifted_table p T
    unfolding lifted_table lifted_entries
    lifted_well v z s =
        let Zeros : List ℕ = replicate (entries p) 0 in
        let n : length Zeros ≡ entries p = length-replicate (entries p) 0 in
        let m : length (lifted_entries p) ≡ entries p = lifted_length p _ Zeros ∙ n in
        s ∙ ap (lifted p _) z ∙ lifted_front p (well_valid p v) (drop (entries p) T) _ Zeros (omega (arith, n))
        ∙ ap (λ (k : ℕ). lifted_entries p ++ drop k T) (sym m) ∙ sym (buffer_made _ (lifted_entries p) T (then_of _ _ (buffer_valid table_room (length T) h) ∙ v))
