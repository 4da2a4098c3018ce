-- Laws of the parts of the text as loops put them: the next item, and what is left behind it.
use Rattle.std.specs.Prelude.{Bool, true, false, cond, ◌≡◌, ℕ, ◌+◌, ◌-◌, ◌^◌, ◌≤◌, ◌<◌, get_or}
use mathlib.Core.List.{List, [], ◌∷◌, ◌++◌, map, flat_map, flatten, append_assoc}
use Rattle.std.proofs.Math.Path.{refl, ap}
use Rattle.std.proofs.Common.{sym, ap₂, ◌∙◌, ne_eqb}
use native.Mathlib.Omega.{arith}
use Rattle.mask.specs.Bits.{has_bit, lowest_of, rest_of}
use Rattle.text.specs.Decimal.{decimal}
use Rattle.text.specs.DecimalLaws.{decimal_one}
use Rattle.hanoi.specs.Words.{ascii, numbers, below, states_of, spread, joined}
use Rattle.hanoi.specs.WordsLaws.{spread_none, spread_more, joined_none, joined_more, states_none, states_next, numbers_at, numbers_past, below_more_lem}
use Rattle.hanoi.specs.Text.{line, start_line, infinitely, acceptance, literal, label}
use Rattle.hanoi.specs.Parts.{items, start_lines, braces_parts, braces, state_text, sets_mask, lines_at, lines_below, spaced, conditions, literals, lines_from}

-- ---- the texts of numbers from k of n on
module _ (between : List ℕ) (f : ℕ → List ℕ) where
  spread_at : (k n : ℕ) → k < n
      → spread between (map f (numbers k (n - k))) ≡ between ++ f k ++ spread between (map f (numbers (k + 1) (n - (k + 1))))
  spread_at k n h = ap (λ (l : List ℕ). spread between (map f l)) (numbers_at k n h) ∙ spread_more between (f k) _

  spread_past : (k n : ℕ) → n ≤ k → spread between (map f (numbers k (n - k))) ≡ []
  spread_past k n h = ap (λ (l : List ℕ). spread between (map f l)) (numbers_past k n h) ∙ spread_none between

  joined_below : (n : ℕ) → 0 < n → joined between (map f (below n)) ≡ f 0 ++ spread between (map f (numbers 1 (n - 1)))
  joined_below n h = ap (λ (l : List ℕ). joined between (map f l)) (below_more_lem n h) ∙ joined_more between (f 0) _

module _ (f : ℕ → List ℕ) where
  flat_none : flat_map f [] ≡ []
  unfolding flat_map
  flat_none = refl

  flat_more : (x : ℕ) (l : List ℕ) → flat_map f (x ∷ l) ≡ f x ++ flat_map f l
  unfolding flat_map
  flat_more x l = refl

  flat_at : (k n : ℕ) → k < n → flat_map f (numbers k (n - k)) ≡ f k ++ flat_map f (numbers (k + 1) (n - (k + 1)))
  flat_at k n h = ap (flat_map f) (numbers_at k n h) ∙ flat_more k _

  flat_past : (k n : ℕ) → n ≤ k → flat_map f (numbers k (n - k)) ≡ []
  flat_past k n h = ap (flat_map f) (numbers_past k n h) ∙ flat_none

-- ---- the items of a mask
pub items_none : items 0 ≡ []
unfolding items
items_none = ap (λ (l : List ℕ). joined (ascii " ") (map decimal l)) states_none ∙ joined_none (ascii " ")

pub spaced_none : spaced 0 ≡ []
unfolding spaced
spaced_none = ap (λ (l : List ℕ). spread (ascii " ") (map decimal l)) states_none ∙ spread_none (ascii " ")

-- ---- start states
pub starts_none : start_lines 0 ≡ []
unfolding start_lines
starts_none = ap (flat_map start_line) states_none ∙ flat_none start_line

start_line_lem : (s : ℕ) → start_line s ≡ (ascii "Start: " ++ decimal s) ++ ascii "\n"
unfolding start_line line joined spread flat_map
start_line_lem s = simp append_assoc

-- by the lowest state x and the mask r of the rest
module _ (m : ℕ) {x r : ℕ} (some : m ≡ 0 → ⊥) (small : m < 2 ^ 64) (low : x ≡ lowest_of 64 m) (rest : r ≡ rest_of m) where
  next : states_of m ≡ x ∷ states_of r
  next = states_next m some small ∙ sym (ap₂ (λ (s k : ℕ). s ∷ states_of k) low rest)

  pub items_next : items m ≡ decimal x ++ spaced r
  unfolding items spaced
  items_next = ap (λ (l : List ℕ). joined (ascii " ") (map decimal l)) next ∙ joined_more (ascii " ") _ _

  pub spaced_next : spaced m ≡ ascii " " ++ (decimal x ++ spaced r)
  unfolding spaced
  spaced_next = ap (λ (l : List ℕ). spread (ascii " ") (map decimal l)) next ∙ spread_more (ascii " ") _ _

  pub starts_next : start_lines m ≡ (ascii "Start: " ++ decimal x) ++ (ascii "\n" ++ start_lines r)
  unfolding start_lines
  starts_next =
      ap (flat_map start_line) next
      ∙ flat_more start_line _ _
      ∙ ap (λ (w : List ℕ). w ++ start_lines r) (start_line_lem x)
      ∙ append_assoc (ascii "Start: " ++ decimal x) (ascii "\n") (start_lines r)

-- ---- the acceptance condition
pub acceptance_first : (n : ℕ) → 0 < n → acceptance n ≡ ascii "Inf(0)" ++ conditions 1 n
unfolding acceptance conditions infinitely
acceptance_first n h = joined_below (ascii "&") infinitely n h ∙ ap (λ (w : List ℕ). ascii "Inf(" ++ w ++ ascii ")" ++ conditions 1 n) (decimal_one 0 (omega arith))

pub conditions_next : (k n : ℕ) → k < n → conditions k n ≡ (ascii "&Inf(" ++ decimal k) ++ (ascii ")" ++ conditions (k + 1) n)
unfolding conditions infinitely
conditions_next k n h = spread_at (ascii "&") infinitely k n h ∙ simp append_assoc

pub conditions_past : (k n : ℕ) → n ≤ k → conditions k n ≡ []
unfolding conditions
conditions_past k n h = spread_past (ascii "&") infinitely k n h

-- ---- the label
pub label_first : (o : ℕ) → label o ≡ (cond (has_bit o 0) (ascii "") (ascii "!") ++ decimal 0) ++ literals o 1 7
unfolding label literals literal
label_first o = joined_below (ascii "&") (literal o) 8 (omega arith)

after_and : (b : Bool) (w : List ℕ) → ascii "&" ++ (cond b (ascii "") (ascii "!") ++ w) ≡ cond b (ascii "&") (ascii "&!") ++ w
after_and true w = refl
after_and false w = refl

pub literals_next : (o i : ℕ) → i < 8 → literals o i (8 - i) ≡ (cond (has_bit o i) (ascii "&") (ascii "&!") ++ decimal i) ++ literals o (i + 1) (8 - (i + 1))
unfolding literals literal
literals_next o i h = spread_at (ascii "&") (literal o) i 8 h ∙ ap (λ (w : List ℕ). w ++ literals o (i + 1) (8 - (i + 1))) (after_and (has_bit o i) (decimal i))

pub literals_past : (o i : ℕ) → 8 ≤ i → literals o i (8 - i) ≡ []
unfolding literals
literals_past o i h = spread_past (ascii "&") (literal o) i 8 h

-- ---- a state's sets
pub braces_none : braces 0 ≡ []
unfolding braces
braces_none = refl

pub braces_some : (m : ℕ) → (m ≡ 0 → ⊥) → braces m ≡ flatten (braces_parts m)
unfolding braces
braces_some m h = rw (ne_eqb m 0 h)

-- ---- the states
module _ (k : ℕ) (observations successors fairness : List ℕ) where
  pub lines_all : (n : ℕ) → lines_below n k observations successors fairness ≡ lines_from k observations successors fairness 0 n
  unfolding lines_below lines_from
  lines_all n = let e : n ≡ n - 0 = omega arith in ap (λ (i : ℕ). flat_map (lines_at k observations successors fairness) (numbers 0 i)) e

  pub lines_next : (s n : ℕ) {members : ℕ} → members ≡ sets_mask k fairness s → s < n → lines_from k observations successors fairness s n
      ≡ state_text s (get_or observations s 0) members (get_or successors s 0) ++ lines_from k observations successors fairness (s + 1) n
  unfolding lines_from lines_at
  lines_next s n e h =
      flat_at (lines_at k observations successors fairness) s n h
      ∙ ap (λ (m : ℕ). state_text s (get_or observations s 0) m (get_or successors s 0) ++ lines_from k observations successors fairness (s + 1) n) (sym e)

  pub lines_past : (s n : ℕ) → n ≤ s → lines_from k observations successors fairness s n ≡ []
  unfolding lines_from
  lines_past s n h = flat_past (lines_at k observations successors fairness) s n h
