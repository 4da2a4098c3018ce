-- The bits of a section's rows that are matched pairs are the pairs that are still in it, for machines of any counts.
use Rattle.std.specs.Prelude.{Bool, false, cond, ◌≡◌, refl, get_or}
use mathlib.Core.List.{List, []}
use Rattle.std.proofs.Math.Logic.{by_cases}
use Rattle.std.proofs.Math.Path.{sym, ap, ap₂}
use Rattle.std.proofs.Common.{◌∙◌, add-one, arith}
use Prim.Native.Nat.{ℕ, zero, suc, ◌+◌, ◌*◌, ◌^◌, ◌≤◌, ◌<◌, min}
use Rattle.std.proofs.Math.Decide.{dec_lt}
use Rattle.std.specs.Int.Bits.{bit_and}
use Rattle.mask.specs.Logic.{and}
use Rattle.mask.specs.LogicLaws.{and_false_r, and_comm}
use Rattle.mask.specs.Bits.{has_bit}
use Rattle.mask.specs.BitsLaws.{has_and, has_beyond, has_none}
use Rattle.mask.specs.Bounded.{sum, count}
use Rattle.mask.specs.BoundedLaws.{sum_cong, sum_le, sum_const, count_cong, count_le, count_none}
use Rattle.mask.specs.Tables.{mask_of}
use Rattle.mask.specs.TablesLaws.{table_at, table_past, mask_of_lt, has_mask_of_at}
use Rattle.machine.specs.declared.Pair.{Pair}
use Rattle.machine.specs.Machines.{n_c, n_a, sets_a, matched, observation, same_observation}
use Rattle.machine.specs.Observed.{same_mask, matched_masks}
use Rattle.machine.specs.ObservedLaws.{matched_at, row_in, row_out}
use Rattle.machine.specs.Game.{pair_set, mem}
use Rattle.theory.specs.GameLaws.{mem_pair_set}
use Rattle.solver.specs.Families.{section_of, family_in}
use Rattle.progress.specs.Turns.{still_in}
use Rattle.turnline.specs.Lines.{still_count, row_count, rows_count}

-- ---- sums and counts whose later terms are nothing
sum_cut : (n m : ℕ) (f : ℕ → ℕ) → m ≤ n → ((i : ℕ) → m ≤ i → i < n → f i ≡ 0) → sum n f ≡ sum m f
unfolding sum
sum_cut zero m f h z = let e : 0 ≡ m = omega arith in ap (λ (k : ℕ). sum k f) e
sum_cut (suc n) m f h z =
    by_cases (dec_lt n m)
    (λ l. let e : suc n ≡ m = omega arith in ap (λ (k : ℕ). sum k f) e)
    (λ l. omega (arith, sum_cut n m f (omega arith) (λ i a b. z i a (omega arith)), z n (omega arith) (omega arith)))

count_cut : (n m : ℕ) (p : ℕ → Bool) → m ≤ n → ((i : ℕ) → m ≤ i → i < n → p i ≡ false) → count n p ≡ count m p
unfolding count
count_cut n m p h z = sum_cut n m (λ i. cond (p i) 1 0) h (λ i a b. ap (λ (t : Bool). cond t 1 0) (z i a b))

-- ---- the rows of a section, one after the other
pub count_small : (p : ℕ → Bool) {k : ℕ} → k ≡ count 64 p → k ≤ 64
count_small p e = omega (arith, e, count_le 64 p)

row_most : (M F : List ℕ) (j c : ℕ) → row_count M F j c ≤ 64
row_most M F j c = count_small (has_bit (bit_and (get_or F (j * 64 + c) 0) (get_or M c 0))) refl

pub rows_most : (M F : List ℕ) (j : ℕ) → rows_count M F j ≤ 4096
unfolding rows_count
rows_most M F j = omega (arith, sum_le 64 (row_count M F j) (λ c. 64) (λ c l. row_most M F j c), sum_const 64 64)

pub record Counting (M F : List ℕ) (j n c : ℕ) : Type 0 where
  pub sum_is : n ≡ sum c (row_count M F j)
  pub room : n ≤ 64 * c

pub counting_none : (M F : List ℕ) (j : ℕ) → Counting M F j 0 0
unfolding sum
counting_none M F j = record { sum_is = refl; room = omega arith }

module _ {M F : List ℕ} {j n c : ℕ} (s : Counting M F j n c) where
  pub counting_more : (k : ℕ) → k ≡ row_count M F j c → Counting M F j (n + k) (c + 1)
  unfolding sum
  counting_more k e = record {
    sum_is = ap₂ ◌+◌ s.sum_is e ∙ ap (λ (i : ℕ). sum i (row_count M F j)) (sym (add-one c));
    room = omega (arith, s.room, e, row_most M F j c);
  }

  pub counting_all : c ≡ 64 → n ≡ rows_count M F j
  unfolding rows_count
  counting_all e = s.sum_is ∙ ap (λ (i : ℕ). sum i (row_count M F j)) e

-- ---- the pairs that are still in
-- the rows that are met with the section's, for machines of any counts
module _ (p : Pair) (c : ℕ) (k : c < 64) where
  abbrev Same : ℕ → Bool
  Same a = same_observation p.hidden (get_or p.concrete.observations c 0) (get_or p.abstraction.observations a 0)

  row_is : c < n_c p → get_or (matched_masks p) c 0 ≡ mask_of (min (n_a p) 64) Same
  unfolding same_mask observation
  row_is l = matched_at p c k ∙ row_in p c l

  has_row : (a : ℕ) → c < n_c p → a < min (n_a p) 64 → has_bit (get_or (matched_masks p) c 0) a ≡ matched p c a
  unfolding matched observation
  has_row a l b = ap (λ (m : ℕ). has_bit m a) (row_is l) ∙ has_mask_of_at (min (n_a p) 64) Same a b

  past_row : (a : ℕ) → c < n_c p → min (n_a p) 64 ≤ a → has_bit (get_or (matched_masks p) c 0) a ≡ false
  past_row a l b = ap (λ (m : ℕ). has_bit m a) (row_is l) ∙ has_beyond (min (n_a p) 64) _ a (mask_of_lt (min (n_a p) 64) Same) b

  no_row : (a : ℕ) → n_c p ≤ c → has_bit (get_or (matched_masks p) c 0) a ≡ false
  no_row a l =
      ap (λ (m : ℕ). has_bit m a) (matched_at p c k ∙ row_out p c l)
      ∙ has_none a

module _ (p : Pair) (F : List ℕ) (j : ℕ) (h : j < sets_a p) where
  abbrev Row : ℕ → ℕ
  Row c = get_or F (j * 64 + c) 0

  abbrev Kept : ℕ → ℕ → Bool
  Kept c = has_bit (bit_and (Row c) (get_or (matched_masks p) c 0))

  -- a pair within the counts is still in where it is matched and its bit is set; from row 64 on there are none
  still_at : (c a : ℕ) → c < n_c p → a < n_a p → still_in p F j c a ≡ and (matched p c a) (has_bit (get_or (section_of F j) c 0) a)
  unfolding still_in family_in mem
  still_at c a l b =
      ap (λ (S : List ℕ). has_bit (get_or S c 0) a) (table_at (sets_a p) (λ i. pair_set p (mem p (section_of F i))) j [] h)
      ∙ mem_pair_set p (mem p (section_of F j)) c a l b

  still_row : (c a : ℕ) → c < 64 → c < n_c p → a < n_a p → still_in p F j c a ≡ and (matched p c a) (has_bit (Row c) a)
  unfolding section_of
  still_row c a k l b = still_at c a l b ∙ ap (λ (m : ℕ). and (matched p c a) (has_bit m a)) (table_at 64 Row c 0 k)

  still_none : (c a : ℕ) → 64 ≤ c → c < n_c p → a < n_a p → still_in p F j c a ≡ false
  unfolding section_of
  still_none c a k l b = still_at c a l b ∙ and_false_r _ (ap (λ (m : ℕ). has_bit m a) (table_past 64 Row c 0 k) ∙ has_none a)

  -- so that the bits of a row that are matched are its pairs
  module _ (small : (e : ℕ) → get_or F e 0 < 2 ^ 64) where
    row_count_lem : (c : ℕ) → c < 64 → c < n_c p → row_count (matched_masks p) F j c ≡ count (n_a p) (still_in p F j c)
    row_count_lem c k l =
        count_cut 64 (min (n_a p) 64) (Kept c) (omega arith) (λ a b d. has_and a (Row c) _ ∙ and_false_r _ (past_row p c k a l b))
        ∙ count_cong (min (n_a p) 64) (Kept c) (still_in p F j c)
        (λ a b. has_and a (Row c) _ ∙ and_comm _ _ ∙ ap (λ (t : Bool). and t (has_bit (Row c) a)) (has_row p c k a l b) ∙ sym (still_row c a k l (omega arith)))
        ∙ sym (count_cut (n_a p) (min (n_a p) 64) (still_in p F j c) (omega arith)
        (λ a b d. still_row c a k l d ∙ and_false_r _ (has_beyond 64 _ a (small (j * 64 + c)) (omega arith))))

    pub still_count_lem : rows_count (matched_masks p) F j ≡ still_count p F j
    unfolding rows_count still_count
    still_count_lem =
        sum_cut 64 (min (n_c p) 64) (row_count (matched_masks p) F j) (omega arith)
        (λ c b d. count_none 64 (Kept c) (λ a l. has_and a (Row c) _ ∙ and_false_r _ (no_row p c d a (omega arith))))
        ∙ sum_cong (min (n_c p) 64) (row_count (matched_masks p) F j) (λ c. count (n_a p) (still_in p F j c)) (λ c b. row_count_lem c (omega arith) (omega arith))
        ∙ sym (sum_cut (n_c p) (min (n_c p) 64) (λ c. count (n_a p) (still_in p F j c)) (omega arith)
        (λ c b d. count_none (n_a p) (still_in p F j c) (λ a l. still_none c a (omega arith) d l)))
