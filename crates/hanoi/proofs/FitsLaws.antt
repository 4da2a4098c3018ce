-- The text of every well-formed machine fits: each part is at most as long as the longest of its kind.
use Rattle.std.specs.Prelude.{Bool, true, false, cond, ◌≡◌, refl, get_or, replicate}
use mathlib.Core.List.{List, [], ◌∷◌, ◌++◌, map, flat_map, flatten}
use Rattle.std.proofs.Math.Logic.{by_cases}
use Rattle.std.proofs.Common.{ap, ◌∙◌}
use Prim.Native.Nat.{ℕ, zero, suc, ◌+◌, ◌-◌, ◌≤◌}
use Rattle.std.proofs.Math.Decide.{dec_lt}
use native.Mathlib.Omega.{arith}
use Rattle.std.proofs.Math.ListN.{length, length-append}
use Rattle.std.proofs.lemmas.List.{length-replicate}
use Rattle.mask.specs.LogicLaws.{cond_cases}
use Rattle.mask.specs.Bits.{has_bit}
use Rattle.mask.specs.BitsLaws.{has_none}
use Rattle.text.specs.Decimal.{decimal, digits_up_to}
use Rattle.text.specs.DecimalLaws.{decimal_short}
use Rattle.machine.specs.declared.Machine.{Machine}
use Rattle.machine.specs.WellFormedLaws.{WellMachine}
use Rattle.hanoi.specs.Words.{ascii, numbers, below, chosen, states_of, spread, joined}
use Rattle.hanoi.specs.WordsLaws.{states_mask}
use Rattle.hanoi.specs.Text.{line, start_line, infinitely, acceptance, literal, label, hoa_text}
use Rattle.hanoi.specs.Parts.{items, start_lines, braces, state_text, sets_mask, lines_at, lines_below, head_text}
use Rattle.hanoi.specs.Statements.{most_length}
use Rattle.hanoi.proofs.TextLaws.{text_parts_lem}
use Rattle.hanoi.specs.PartsLaws.{braces_none, braces_some}

-- ---- numbers that are written, and those of them that pass a test
module _ (f g : ℕ → List ℕ) (shorter : (i : ℕ) → length (f i) ≤ length (g i)) where
  -- fewer numbers and shorter texts make a shorter text
  flat_most : (p : ℕ → Bool) (s n k : ℕ) → n ≤ k → length (flat_map f (chosen p (numbers s n))) ≤ length (flat_map g (numbers s k))
  unfolding flat_map chosen numbers
  flat_most p s zero k h = omega arith
  flat_most p s (suc n) zero h = absurd (omega arith)
  flat_most p s (suc n) (suc k) h =
      let later = flat_most p (suc s) n k (omega arith) in
      let first = length-append (g s) (flat_map g (numbers (suc s) k)) in
      cond_cases (p s) (λ l. length (flat_map f l) ≤ length (g s ++ flat_map g (numbers (suc s) k))) _ _
      (λ t. omega (arith, shorter s, later, first, length-append (f s) (flat_map f (chosen p (numbers (suc s) n)))))
      (λ t. omega (arith, later, first))

all_chosen : (s n : ℕ) → chosen (λ i. true) (numbers s n) ≡ numbers s n
unfolding chosen numbers
all_chosen s zero = refl
all_chosen s (suc n) = ap (λ (l : List ℕ). s ∷ l) (all_chosen (suc s) n)

spread_flat : (b : ℕ) (f : ℕ → List ℕ) (l : List ℕ) → spread (b ∷ []) (map f l) ≡ flat_map (λ i. b ∷ f i) l
unfolding spread flat_map
spread_flat b f [] = refl
spread_flat b f (x ∷ l) = ap (λ (r : List ℕ). b ∷ (f x ++ r)) (spread_flat b f l)

-- items with a byte between two have one byte less than with one before each
joined_most : (b : ℕ) (f : ℕ → List ℕ) (l : List ℕ) → length (joined (b ∷ []) (map f l)) ≤ length (flat_map (λ i. b ∷ f i) l) - 1
unfolding joined flat_map
joined_most b f [] = omega arith
joined_most b f (x ∷ l) = let e = ap (λ (r : List ℕ). length (f x ++ r)) (spread_flat b f l) in omega (arith, e)

-- so a byte between two of those that pass, of n or fewer, takes at most what all k take
chosen_most : (b : ℕ) (f g : ℕ → List ℕ) (p : ℕ → Bool) (n k : ℕ) → ((i : ℕ) → length (f i) ≤ length (g i)) → n ≤ k
    → length (joined (b ∷ []) (map f (chosen p (below n)))) ≤ length (flat_map (λ i. b ∷ g i) (below k)) - 1
chosen_most b f g p n k shorter h =
    omega (arith, joined_most b f (chosen p (below n)), flat_most (λ i. b ∷ f i) (λ i. b ∷ g i) (λ i. omega (arith, shorter i)) p 0 n k h)

-- ---- each part, and the longest of its kind
items_all : length (flat_map (λ i. 32 ∷ decimal i) (below 64)) ≡ 182
unfolding flat_map numbers decimal digits_up_to
items_all = refl

items_most : (m : ℕ) → length (items m) ≤ 181
unfolding items states_of
items_most m = omega (arith, chosen_most 32 decimal decimal (has_bit m) 64 64 (λ i. omega arith) (omega arith), items_all)

starts_all : length (flat_map start_line (below 64)) ≡ 630
unfolding flat_map numbers decimal digits_up_to start_line line joined spread
starts_all = refl

starts_most : (m : ℕ) → length (start_lines m) ≤ 630
unfolding start_lines states_of
starts_most m = omega (arith, flat_most start_line start_line (λ i. omega arith) (has_bit m) 0 64 64 (omega arith), starts_all)

conditions_all : length (flat_map (λ k. 38 ∷ infinitely k) (below 8)) ≡ 56
unfolding flat_map numbers decimal digits_up_to infinitely
conditions_all = refl

acceptance_most : (n : ℕ) → n ≤ 8 → length (acceptance n) ≤ 55
unfolding acceptance infinitely
acceptance_most n h =
    omega (arith, ap (λ (l : List ℕ). length (joined (38 ∷ []) (map infinitely l))) (all_chosen 0 n), chosen_most 38 infinitely infinitely (λ i. true) n 8 (λ i. omega arith) h, conditions_all)

literal_most : (o i : ℕ) → length (literal o i) ≤ length (literal 0 i)
unfolding literal
literal_most o i = rw (has_none i) (by_bit (has_bit o i))
  where
    by_bit : (b : Bool) → length (cond b (ascii "") (ascii "!") ++ decimal i) ≤ suc (length (decimal i))
    by_bit true = omega arith
    by_bit false = omega arith

label_all : length (flat_map (λ i. 38 ∷ literal 0 i) (below 8)) ≡ 24
unfolding flat_map numbers decimal digits_up_to literal has_bit
label_all = refl

label_most : (o : ℕ) → length (label o) ≤ 23
unfolding label
label_most o =
    omega (arith, ap (λ (l : List ℕ). length (joined (38 ∷ []) (map (literal o) l))) (all_chosen 0 8), chosen_most 38 (literal o) (literal 0) (λ i. true) 8 8 (literal_most o) (omega arith), label_all)

sets_all : length (flat_map (λ i. 32 ∷ decimal i) (below 8)) ≡ 16
unfolding flat_map numbers decimal digits_up_to
sets_all = refl

sets_most : (k : ℕ) (fairness : List ℕ) (s : ℕ) → k ≤ 8 → length (items (sets_mask k fairness s)) ≤ 15
unfolding items sets_mask
sets_most k fairness s h =
    omega (
      arith,
      ap (λ (l : List ℕ). length (joined (32 ∷ []) (map decimal l))) (states_mask k (λ j. has_bit (get_or fairness j 0) s) (omega arith)),
      chosen_most 32 decimal decimal (λ j. has_bit (get_or fairness j 0) s) k 8 (λ i. omega arith) h,
      sets_all,
    )

braces_most : (m : ℕ) → length (items m) ≤ 15 → length (braces m) ≤ 18
unfolding flatten
braces_most m h =
    by_cases (dec_lt 0 m)
    (λ l. omega (arith, ap length (braces_some m (λ e. omega arith)), length-append (items m) (ascii "}")))
    (λ l. let none : m ≡ 0 = omega arith in omega (arith, ap length (ap braces none ∙ braces_none)))

-- ---- the lines of the states
state_most : (k : ℕ) (observations successors fairness : List ℕ) (s : ℕ) → k ≤ 8 → length (lines_at k observations successors fairness s) ≤ 234 + length (decimal s)
unfolding lines_at state_text flatten
state_most k observations successors fairness s h =
    let o = get_or observations s 0 in
    let members = sets_mask k fairness s in
    let next = items (get_or successors s 0) in
    omega (
      arith,
      label_most o,
      braces_most members (sets_most k fairness s h),
      items_most (get_or successors s 0),
      length-append (label o) (ascii "] " ++ (decimal s ++ (braces members ++ (ascii "\n" ++ (next ++ ascii "\n"))))),
      length-append (decimal s) (braces members ++ (ascii "\n" ++ (next ++ ascii "\n"))),
      length-append (braces members) (ascii "\n" ++ (next ++ ascii "\n")),
      length-append next (ascii "\n"),
    )

lines_all : length (flat_map (λ s. replicate 234 0 ++ decimal s) (below 64)) ≡ 15094
unfolding flat_map numbers decimal digits_up_to
lines_all = refl

states_most : (n k : ℕ) (observations successors fairness : List ℕ) → n ≤ 64 → k ≤ 8 → length (lines_below n k observations successors fairness) ≤ 15094
unfolding lines_below
states_most n k observations successors fairness h q =
    let f = lines_at k observations successors fairness in
    omega (
      arith,
      ap (λ (l : List ℕ). length (flat_map f l)) (all_chosen 0 n),
      flat_most f (λ s. replicate 234 0 ++ decimal s) (λ s. omega (arith, state_most k observations successors fairness s q, length-append (replicate 234 0) (decimal s), length-replicate {A = ℕ} 234 0)) (λ i. true) 0 n 64 h,
      lines_all,
    )

-- ---- the lines before them
parts_length : (w : List ℕ) (ws : List (List ℕ)) → length (flatten (w ∷ ws)) ≡ length w + length (flatten ws)
unfolding flatten
parts_length w ws = length-append w (flatten ws)

parts_none : length (flatten {A = ℕ} []) ≡ 0
unfolding flatten
parts_none = refl

head_most : (n k start : ℕ) → n ≤ 64 → k ≤ 8 → length (head_text n k start) ≤ 839
unfolding head_text
head_most n k start h q =
    simp (parts_length, parts_none, length-append)
    (omega (arith, decimal_short 1 n (omega arith) (omega arith), decimal_short 0 k (omega arith) (omega arith), starts_most start, acceptance_most k q))

-- ---- the whole
pub text_most : (m : Machine) → WellMachine 8 m → length (hoa_text m) ≤ most_length
text_most m w =
    let few : m.sets ≤ 64 = omega (arith, w.sets_high) in
    rw (text_parts_lem m few)
    (simp (parts_length, parts_none)
    (omega (
      arith,
      head_most m.states m.sets m.start w.states_high w.sets_high,
      states_most m.states m.sets m.observations m.successors m.fairness w.states_high w.sets_high,
    )))
