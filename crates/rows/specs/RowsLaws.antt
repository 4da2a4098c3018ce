-- Laws of the loops over rows: a union, a meet, and rows that are the same.
use Rattle.std.specs.Prelude.{Bool, true, false, List, ◌≡◌, refl, ltb, get_or, replicate}
use Rattle.std.proofs.Math.Bool.{cond}
use Rattle.std.proofs.Math.Logic.{by_cases}
use Rattle.std.proofs.Math.Path.{sym, ap}
use Rattle.std.proofs.Common.{◌∙◌, lt-ltb, le-ltb, eq-eqb, eqb-true}
use Prim.Native.Nat.{ℕ, ◌*◌, ◌^◌, ◌≤◌, ◌<◌, min}
use Rattle.std.proofs.Math.Decide.{dec_lt}
use native.Mathlib.Omega.{arith}
use Rattle.std.specs.Int.Bits.{bit_and, bit_or, and_le_l}
use lib.Bits.{or_lt}
use Rattle.mask.specs.Logic.{and, or}
use Rattle.mask.specs.LogicLaws.{clash, and_true_l, and_true_r, or_false_l, or_false_r}
use Rattle.mask.specs.Bits.{has_bit, lowest_of, rest_of, full_mask}
use Rattle.mask.specs.BitsLaws.{has_and, has_or, has_none, has_full, has_lt, full_lt, lowest_lt}
use Rattle.mask.specs.Bounded.{every_in, some_in}
use Rattle.mask.specs.BoundedLaws.{every_at, every_of, every_in_zero, some_in_zero}
use Rattle.mask.specs.Tables.{mask_of, table, front}
use Rattle.mask.specs.TablesLaws.{mask_of_is, mask_of_lt, has_mask_of_at, table_at, table_past, table_cong}
use Rattle.mask.specs.FrontLaws.{zeros_at, front_over}
use Rattle.mask.specs.WalkLaws.{every_in_step, some_in_step, rest_small}
use Rattle.machine.specs.WellFormedLaws.{mul_bound}
use Rattle.rows.specs.Folds.{fold_rows, fold_keeps}
use Rattle.rows.specs.Rows.{movers_of, predecessors_of, partners_of, meet_of, same_rows}

pub area : {n_c n_a : ℕ} → n_c ≤ 64 → n_a ≤ 64 → n_c * n_a ≤ 4096
area {n_c} {n_a} h k = mul_bound n_c n_a 64 64 h k

-- the state that a walk takes next is a number below 64
pub walk_index : {left : ℕ} (d : ℕ) → d ≡ lowest_of 64 left → (left ≡ 0 → ⊥) → left < 2 ^ 64 → d < 64
walk_index {left} d e z h = omega (arith, lowest_lt 64 left (omega arith) h)

-- rows that are filled up to a count of at most 64, and zero beyond
pub front_rows : (g : ℕ → ℕ) (m : ℕ) {n : ℕ} {l : List ℕ} → l ≡ front n g (replicate 64 0) → n ≡ min m 64 → l ≡ table 64 (λ k. cond (ltb k m) (g k) 0)
front_rows g m {n} {l} e z =
    front_over g (replicate 64 0) e m z ∙ table_cong 64 _ _ (λ k h. ap (λ (x : ℕ). cond (ltb k m) (g k) x) (zeros_at 64 k))

-- ---- predecessors
module _ (n : ℕ) (moves : List ℕ) where
  row_at : (b : ℕ) → b < 64 → get_or (predecessors_of n moves) b 0 ≡ cond (ltb b n) (movers_of n moves b) 0
  unfolding predecessors_of
  row_at b h = table_at 64 (λ i. cond (ltb i n) (movers_of n moves i) 0) b 0 h

  row_below : (b : ℕ) → n ≤ 64 → b < n → get_or (predecessors_of n moves) b 0 ≡ mask_of n (λ i. has_bit (get_or moves i 0) b)
  unfolding movers_of
  row_below b h l = let few : min n 64 ≡ n = omega arith in row_at b (omega arith) ∙ rw (lt-ltb b n l, few)

  -- a is a predecessor of b exactly if it moves to b
  pub has_predecessor : (a b : ℕ) → n ≤ 64 → a < n → b < n → has_bit (get_or (predecessors_of n moves) b 0) a ≡ has_bit (get_or moves a 0) b
  has_predecessor a b h ha hb =
      ap (λ (m : ℕ). has_bit m a) (row_below b h hb) ∙ has_mask_of_at n _ a ha

  pub no_predecessor : (b : ℕ) → n ≤ b → get_or (predecessors_of n moves) b 0 ≡ 0
  unfolding predecessors_of
  no_predecessor b h = by_cases (dec_lt b 64)
      (λ l. row_at b l ∙ rw (le-ltb b n h)) (λ l. table_past 64 (λ i. cond (ltb i n) (movers_of n moves i) 0) b 0 (omega arith))

  -- predecessors are states below the count
  pub predecessor_low : (a b : ℕ) → n ≤ 64 → has_bit (get_or (predecessors_of n moves) b 0) a ≡ true → a < n
  predecessor_low a b h t = by_cases (dec_lt b n)
      (λ l. has_lt n (mask_of n (λ i. has_bit (get_or moves i 0) b)) a (mask_of_lt n _) (ap (λ (m : ℕ). has_bit m a) (sym (row_below b h l)) ∙ t))
      (λ l. absurd (clash (ap (λ (m : ℕ). has_bit m a) (no_predecessor b (omega arith)) ∙ has_none a) t))

-- ---- a union
or_assoc : (a b c : Bool) → or (or a b) c ≡ or a (or b c)
unfolding or
or_assoc true b c = refl
or_assoc false b c = refl

-- a is in the row of some state of a mask
unfoldable pub in_some : List ℕ → ℕ → ℕ → Bool
in_some rows m a = some_in 64 m (λ d. has_bit (get_or rows d 0) a)

-- of the states of the row those of `left` are still to be joined, and m has joined the others
pub record Joining (rows : List ℕ) (row m left : ℕ) : Type 0 where
  pub small : left < 2 ^ 64
  pub low : m < 2 ^ 64
  pub joined : (a : ℕ) → or (has_bit m a) (in_some rows left a) ≡ in_some rows row a

module _ {rows : List ℕ} {row : ℕ} where
  pub joining_start : row < 2 ^ 64 → Joining rows row 0 row
  joining_start h = record { small = h; low = omega arith; joined = λ a. or_false_l _ (has_none a) }

  pub joining_turn : {m left : ℕ} (d : ℕ) → d ≡ lowest_of 64 left → (left ≡ 0 → ⊥) → bit_or m (get_or rows d 0) < 2 ^ 64 → Joining rows row m left
      → Joining rows row (bit_or m (get_or rows d 0)) (rest_of left)
  unfolding in_some
  joining_turn {m} {left} d e z low q =
      let p : 0 < left = omega arith in
      record {
        small = rest_small 64 left p q.small;
        low = low;
        joined = λ a.
            ap (λ (b : Bool). or b (in_some rows (rest_of left) a)) (has_or a m (get_or rows d 0))
            ∙ or_assoc _ _ _
            ∙ ap (or (has_bit m a)) (ap (λ (n : ℕ). or (has_bit (get_or rows n 0) a) (in_some rows (rest_of left) a)) e ∙ sym (some_in_step 64 left _ p q.small))
            ∙ q.joined a;
      }

  pub joining_done : {m left : ℕ} → left ≡ 0 → Joining rows row m left → m ≡ partners_of rows row
  unfolding partners_of in_some
  joining_done {m} {left} z q =
      mask_of_is 64 m _ q.low
      (λ a l. sym (or_false_r (has_bit m a) (ap (λ (n : ℕ). in_some rows n a) z ∙ some_in_zero 64 _)) ∙ q.joined a)

-- rows below 2^64 are joined to the union
module _ (rows : List ℕ) (row : ℕ) (rows_low : (d : ℕ) → get_or rows d 0 < 2 ^ 64) where
  pub joined_is : row < 2 ^ 64 → fold_rows bit_or rows row 0 ≡ partners_of rows row
  joined_is h = joining_done refl
      (fold_keeps bit_or rows (Joining rows row) (λ v m q. q.small) (λ v m z q. joining_turn (lowest_of 64 m) refl z (or_lt 64 v _ q.low (rows_low (lowest_of 64 m))) q) (joining_start h))

-- ---- a meet
and_assoc : (a b c : Bool) → and (and a b) c ≡ and a (and b c)
unfolding and
and_assoc true b c = refl
and_assoc false b c = refl

-- a is in the rows of all states of a mask
unfoldable pub in_all : List ℕ → ℕ → ℕ → Bool
in_all rows m a = every_in 64 m (λ d. has_bit (get_or rows d 0) a)

-- of the moves those of `left` are still to be met, and m has met the others
pub record Meeting (moves : ℕ) (rows : List ℕ) (m left : ℕ) : Type 0 where
  pub small : left < 2 ^ 64
  pub low : m < 2 ^ 64
  pub met : (a : ℕ) → a < 64 → and (has_bit m a) (in_all rows left a) ≡ in_all rows moves a

module _ {moves : ℕ} {rows : List ℕ} where
  pub meeting_start : moves < 2 ^ 64 → Meeting moves rows (full_mask (min 64 64)) moves
  meeting_start k =
      let e : min 64 64 ≡ 64 = omega arith in
      rw e (record { small = k; low = full_lt 64; met = λ a l. and_true_l _ (has_full 64 a ∙ lt-ltb a 64 l) })

  pub meeting_turn : {m left : ℕ} (d : ℕ) → d ≡ lowest_of 64 left → (left ≡ 0 → ⊥) → Meeting moves rows m left
      → Meeting moves rows (bit_and m (get_or rows d 0)) (rest_of left)
  unfolding in_all
  meeting_turn {m} {left} d e z q =
      let p : 0 < left = omega arith in
      record {
        small = rest_small 64 left p q.small;
        low = omega (arith, and_le_l m (get_or rows d 0), q.low);
        met = λ a l.
            ap (λ (b : Bool). and b (in_all rows (rest_of left) a)) (has_and a m (get_or rows d 0))
            ∙ and_assoc _ _ _
            ∙ ap (and (has_bit m a)) (ap (λ (n : ℕ). and (has_bit (get_or rows n 0) a) (in_all rows (rest_of left) a)) e ∙ sym (every_in_step 64 left _ p q.small))
            ∙ q.met a l;
      }

  pub meeting_done : {m left : ℕ} → left ≡ 0 → Meeting moves rows m left → m ≡ meet_of moves rows
  unfolding meet_of in_all
  meeting_done {m} {left} z q =
      mask_of_is 64 m _ q.low
      (λ a l. sym (and_true_r (has_bit m a) (ap (λ (n : ℕ). in_all rows n a) z ∙ every_in_zero 64 _)) ∙ q.met a l)

-- the moves' rows are met
module _ (rows : List ℕ) (moves : ℕ) where
  pub met_is : moves < 2 ^ 64 → fold_rows bit_and rows moves (full_mask 64) ≡ meet_of moves rows
  met_is h =
      let e : min 64 64 ≡ 64 = omega arith in
      let start : Meeting moves rows (full_mask (min 64 64)) moves = meeting_start h in
      meeting_done refl (fold_keeps bit_and rows (Meeting moves rows) (λ v m q. q.small) (λ v m z q. meeting_turn (lowest_of 64 m) refl z q) (rw e at start))

-- ---- the same rows
pub same_yes : (n : ℕ) (x y : List ℕ) → ((c : ℕ) → c < min n 64 → get_or x c 0 ≡ get_or y c 0) → same_rows n x y ≡ true
unfolding same_rows
same_yes n x y h = every_of (min n 64) _ (λ c l. eq-eqb (get_or x c 0) (get_or y c 0) (h c l))

pub same_at : (n : ℕ) (x y : List ℕ) → same_rows n x y ≡ true → (c : ℕ) → c < min n 64 → get_or x c 0 ≡ get_or y c 0
unfolding same_rows
same_at n x y t c h = eqb-true (get_or x c 0) (get_or y c 0) (every_at (min n 64) _ t c h)
