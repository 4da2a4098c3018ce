-- Laws of the loop that lowers a set row by row: rows that may have to change are due, and a row that changes makes its predecessors due.
use Rattle.std.specs.Prelude.{Bool, true, false, ◌≡◌, refl, ltb, length, set}
use Rattle.std.proofs.Math.Bool.{cond}
use mathlib.Core.List.{List}
use Rattle.std.proofs.Math.Logic.{⊎_elim, by_cases}
use Rattle.std.proofs.Math.Path.{sym, ap}
use Rattle.std.proofs.Common.{◌∙◌, mul-le-mul_right, arith, length-set, get_or-set_same, lt-ltb, le-ltb}
use Prim.Native.Nat.{ℕ, suc, ◌+◌, ◌*◌, ◌^◌, ◌≤◌, ◌<◌, min}
use Rattle.std.proofs.Math.Decide.{dec_lt, ℕ_discrete}
use Rattle.std.proofs.Math.Nat.{pow-le-pow_right}
use Rattle.std.proofs.Math.ListN.{get_or, get_or-eq_default}
use Rattle.std.proofs.Math.Seq.{get_or-set_other}
use Rattle.std.specs.Int.Bits.{bit_and, bit_or}
use Rattle.std.proofs.lemmas.Nat.{and_le_l, or_lt}
use Rattle.mask.specs.LogicLaws.{clash, refute, cond_cases, and_l, and_r, and_i, or_l, or_r, or_e, or_none}
use Rattle.mask.specs.Bits.{has_bit, lowest_of, rest_of, full_mask}
use Rattle.mask.specs.BitsLaws.{has_and, has_or, has_none, has_full, full_lt, has_lt, lowest_set}
use Rattle.mask.specs.WalkLaws.{rest_has, rest_keeps, rest_small}
use Rattle.mask.specs.Bounded.{sum}
use Rattle.mask.specs.BoundedLaws.{every_in_at, every_in_of, every_in_cong, some_in_at, some_in_of, sum_eq}
use Rattle.mask.specs.Tables.{mask_of}
use Rattle.mask.specs.TablesLaws.{table_length, table_at, table_past, fill_done, mask_of_lt, mask_of_cong, has_mask_of_at}
use Rattle.rows.specs.Rows.{movers_of, predecessors_of, partners_of, meet_of, partner_rows}
use Rattle.rows.specs.RowsLaws.{has_predecessor, predecessor_low}
use Rattle.rows.specs.Largest.{Inside, rule_row, Meets, Largest}

-- a bit of a mask that a test makes is the test's
has_made : (f : ℕ → Bool) (a : ℕ) → has_bit (mask_of 64 f) a ≡ true → (a < 64) × (f a ≡ true)
has_made f a t = let l : a < 64 = has_lt 64 (mask_of 64 f) a (mask_of_lt 64 f) t in (l, sym (has_mask_of_at 64 f a l) ∙ t)

-- a mask of fewer states is one of 64
pub wider : (w : ℕ) → w ≤ 64 → (m : ℕ) → m < 2 ^ w → m < 2 ^ 64
wider w h m l = let q : 2 ^ w ≤ 2 ^ 64 = pow-le-pow_right {n = 2} (omega arith) h in omega arith

predecessors_small : (n : ℕ) (moves : List ℕ) (b : ℕ) → n ≤ 64 → get_or (predecessors_of n moves) b 0 < 2 ^ 64
unfolding predecessors_of movers_of
predecessors_small n moves b h = by_cases (dec_lt b 64)
    (λ l. rw (table_at 64 (λ i. cond (ltb i n) (movers_of n moves i) 0) b 0 l)
    (cond_cases (ltb b n) (λ m. m < 2 ^ 64) (movers_of n moves b) 0 (λ t. wider (min n 64) (omega arith) _ (mask_of_lt (min n 64) _)) (λ t. omega arith)))
    (λ l. rw (table_past 64 (λ i. cond (ltb i n) (movers_of n moves i) 0) b 0 (omega arith)) (omega arith))

module _ (n_c : ℕ) (moves predecessors base : List ℕ) (members : ℕ) where
  abbrev Rule : List ℕ → ℕ → ℕ
  Rule = rule_row n_c moves predecessors base members

  abbrev Reached : List ℕ → List ℕ
  Reached = partner_rows n_c predecessors

  reached_at : (x : List ℕ) (d : ℕ) → d < 64 → get_or (Reached x) d 0 ≡ cond (ltb d n_c) (partners_of predecessors (get_or x d 0)) 0
  unfolding partner_rows
  reached_at x d h = table_at 64 (λ i. cond (ltb i n_c) (partners_of predecessors (get_or x i 0)) 0) d 0 h

  -- partners of more states are more, row by row, and so is what meets the rule
  reached_mono : (u x : List ℕ) → Inside n_c u x → (d a : ℕ) → d < 64 → has_bit (get_or (Reached u) d 0) a ≡ true → has_bit (get_or (Reached x) d 0) a ≡ true
  unfolding partners_of
  reached_mono u x h d a hd t = by_cases (dec_lt d n_c)
      (λ l.
      let at_u : get_or (Reached u) d 0 ≡ partners_of predecessors (get_or u d 0) = reached_at u d hd ∙ rw (lt-ltb d n_c l) in
      let at_x : get_or (Reached x) d 0 ≡ partners_of predecessors (get_or x d 0) = reached_at x d hd ∙ rw (lt-ltb d n_c l) in
      let q = has_made _ a (ap (λ (m : ℕ). has_bit m a) (sym at_u) ∙ t) in
      let r = some_in_at 64 (get_or u d 0) _ q.1 in
      ap (λ (m : ℕ). has_bit m a) at_x ∙ has_mask_of_at 64 _ a q.0 ∙ some_in_of 64 (get_or x d 0) _ r.0 r.1 (h d r.0 l r.2) r.3)
      (λ l. absurd (clash (ap (λ (m : ℕ). has_bit m a) (reached_at u d hd ∙ rw (le-ltb d n_c (omega arith))) ∙ has_none a) t))

  rule_mono : (u x : List ℕ) → Inside n_c u x → (c a : ℕ) → has_bit (Rule u c) a ≡ true → has_bit (Rule x c) a ≡ true
  unfolding rule_row meet_of
  rule_mono u x h c a t = has_or a (get_or base c 0) (Step x) ∙ ⊎_elim (λ v. or_l _ v) (λ v. or_r _ (stay v)) (or_e (sym (has_or a (get_or base c 0) (Step u)) ∙ t))
    where
      Step : List ℕ → ℕ
      Step y = cond (has_bit members c) 0 (meet_of (get_or moves c 0) (Reached y))

      stay : has_bit (Step u) a ≡ true → has_bit (Step x) a ≡ true
      stay = go (has_bit members c)
        where
          go : (b : Bool) → has_bit (cond b 0 (meet_of (get_or moves c 0) (Reached u))) a ≡ true → has_bit (cond b 0 (meet_of (get_or moves c 0) (Reached x))) a ≡ true
          go true v = v
          go false v =
              let q = has_made _ a v in
              has_mask_of_at 64 _ a q.0 ∙ every_in_of 64 (get_or moves c 0) _ (λ d l e. reached_mono u x h d a l (every_in_at 64 (get_or moves c 0) _ q.1 d l e))

  -- a row that no move of c leads to is not looked at in row c
  rule_same : (x y : List ℕ) (c : ℕ) → ((d : ℕ) → d < 64 → has_bit (get_or moves c 0) d ≡ true → get_or x d 0 ≡ get_or y d 0) → Rule x c ≡ Rule y c
  unfolding rule_row meet_of
  rule_same x y c h = ap (λ (m : ℕ). bit_or (get_or base c 0) (cond (has_bit members c) 0 m))
      (mask_of_cong 64 _ _ (λ a l. every_in_cong 64 (get_or moves c 0) _ _ (λ d q e.
      ap (λ (m : ℕ). has_bit m a) (reached_at x d q ∙ ap (λ (r : ℕ). cond (ltb d n_c) (partners_of predecessors r) 0) (h d q e) ∙ sym (reached_at y d q)))))

  -- the partners of a set with one row changed
  reached_set : (x : List ℕ) (c v : ℕ) → n_c ≤ 64 → length x ≡ 64 → c < n_c → set (Reached x) c (partners_of predecessors v) ≡ Reached (set x c v)
  unfolding partner_rows
  reached_set x c v few long h = fill_done 0 64 (set (Reached x) c (partners_of predecessors v)) _ (length-set (Reached x) c _ ∙ table_length 64 _) (λ k l. by_cases (ℕ_discrete k c)
      (λ e. rw e (get_or-set_same (Reached x) c (partners_of predecessors v) 0 (omega (arith, table_length 64 (λ d. cond (ltb d n_c) (partners_of predecessors (get_or x d 0)) 0)))
      ∙ sym (ap (λ (r : ℕ). cond (ltb c n_c) (partners_of predecessors r) 0) (get_or-set_same x c v 0 (omega arith)) ∙ rw (lt-ltb c n_c h))))
      (λ e. get_or-set_other (Reached x) c k (partners_of predecessors v) 0 e ∙ reached_at x k l
      ∙ ap (λ (r : ℕ). cond (ltb k n_c) (partners_of predecessors r) 0) (sym (get_or-set_other x c k v 0 e))))

  -- ---- the loop
  -- x holds whatever meets the rule within the start, and each row that is not due meets the rule
  pub record Shrinking (start x reached : List ℕ) (due : ℕ) : Type 0 where
    pub small : due < 2 ^ 64
    pub low : (c : ℕ) → has_bit due c ≡ true → c < n_c
    pub long : length x ≡ 64
    pub reached_is : reached ≡ Reached x
    pub beyond : (c : ℕ) → n_c ≤ c → get_or x c 0 ≡ get_or start c 0
    pub below : (c : ℕ) → get_or x c 0 ≤ get_or start c 0
    pub inside : Inside n_c x start
    pub holds : (u : List ℕ) → Inside n_c u start → Meets n_c moves predecessors base members u → Inside n_c u x
    pub settled : (c a : ℕ) → c < n_c → has_bit due c ≡ false → has_bit (get_or x c 0) a ≡ true → has_bit (Rule x c) a ≡ true

  module _ (few : n_c ≤ 64) {start : List ℕ} where
    pub shrinking_start : {reached : List ℕ} {due : ℕ} → length start ≡ 64 → reached ≡ Reached start → due ≡ full_mask (min n_c 64) → Shrinking start start reached due
    shrinking_start {reached} {due} h e ed =
        let all : due ≡ full_mask n_c = ed ∙ ap full_mask (omega arith) in
        record {
          small = rw all (wider n_c few (full_mask n_c) (full_lt n_c));
          low = λ c t. has_lt n_c (full_mask n_c) c (full_lt n_c) (ap (λ (m : ℕ). has_bit m c) (sym all) ∙ t);
          long = h;
          reached_is = e;
          beyond = λ c l. refl;
          below = λ c. omega arith;
          inside = λ c a hc t. t;
          holds = λ u i m. i;
          settled = λ c a hc t u. absurd (clash t (ap (λ (m : ℕ). has_bit m c) all ∙ has_full n_c c ∙ lt-ltb c n_c hc));
        }

    module _ {x reached : List ℕ} {due c : ℕ} (e : c ≡ lowest_of 64 due) (z : due ≡ 0 → ⊥) (d : Shrinking start x reached due) where
      some_due : 0 < due
      some_due = omega arith

      taken : has_bit due c ≡ true
      taken = ap (has_bit due) e ∙ lowest_set 64 due some_due d.small

      pub due_low : c < n_c
      due_low = d.low c taken

      -- a row that is not left and not the one taken was not due
      not_due : (b : ℕ) → has_bit (rest_of due) b ≡ false → (b ≡ c → ⊥) → has_bit due b ≡ false
      not_due b t n = refute _ (λ u. clash t (rest_keeps 64 due some_due d.small b u (λ q. n (q ∙ sym e))))

      -- what row c becomes, by the partner rows that are held
      abbrev Row : ℕ
      Row = bit_and (get_or x c 0) (bit_or (get_or base c 0) (cond (has_bit members c) 0 (meet_of (get_or moves c 0) reached)))

      row_is : Row ≡ bit_and (get_or x c 0) (Rule x c)
      unfolding rule_row
      row_is = ap (λ (r : List ℕ). bit_and (get_or x c 0) (bit_or (get_or base c 0) (cond (has_bit members c) 0 (meet_of (get_or moves c 0) r)))) d.reached_is

      row_bit : (a : ℕ) → has_bit Row a ≡ true → (has_bit (get_or x c 0) a ≡ true) × (has_bit (Rule x c) a ≡ true)
      row_bit a t =
          let u = sym (has_and a (get_or x c 0) (Rule x c)) ∙ ap (λ (m : ℕ). has_bit m a) (sym row_is) ∙ t in
          (and_l _ _ u, and_r _ _ u)

      -- a row that stays as it is meets the rule
      pub shrinking_kept : {row : ℕ} → row ≡ Row → row ≡ get_or x c 0 → Shrinking start x reached (rest_of due)
      shrinking_kept er same = record {
        small = rest_small 64 due some_due d.small;
        low = λ b t. d.low b (rest_has 64 due some_due d.small b t);
        long = d.long;
        reached_is = d.reached_is;
        beyond = d.beyond;
        below = d.below;
        inside = d.inside;
        holds = d.holds;
        settled = λ b a hb t u. by_cases (ℕ_discrete b c)
            (λ q. rw q (row_bit a (ap (λ (m : ℕ). has_bit m a) (sym er ∙ same ∙ ap (λ (i : ℕ). get_or x i 0) (sym q)) ∙ u)).1)
            (λ q. d.settled b a hb (not_due b t q) u);
      }

      -- a row that is lowered makes its predecessors due
      module _ {row : ℕ} {dependents : List ℕ} (er : row ≡ Row) (ed : dependents ≡ predecessors_of n_c moves) where
        abbrev X : List ℕ
        X = set x c row

        at_c : get_or X c 0 ≡ row
        at_c = get_or-set_same x c row 0 (omega (arith, d.long, due_low))

        lower : (b a : ℕ) → has_bit (get_or X b 0) a ≡ true → has_bit (get_or x b 0) a ≡ true
        lower b a t = by_cases (ℕ_discrete b c)
            (λ q. rw q (row_bit a (ap (λ (m : ℕ). has_bit m a) (sym er ∙ sym at_c ∙ ap (λ (i : ℕ). get_or X i 0) (sym q)) ∙ t)).0)
            (λ q. ap (λ (m : ℕ). has_bit m a) (sym (get_or-set_other x c b row 0 q)) ∙ t)

        kept : (u : List ℕ) → Inside n_c u start → Meets n_c moves predecessors base members u → Inside n_c u X
        kept u i m b a hb t = by_cases (ℕ_discrete b c)
            (λ q. rw q (ap (λ (r : ℕ). has_bit r a) (at_c ∙ er ∙ row_is) ∙ has_and a (get_or x c 0) (Rule x c) ∙ and_i (old c a due_low (rw q at t)) (rule_mono u x old c a (m c a due_low (rw q at t)))))
            (λ q. ap (λ (r : ℕ). has_bit r a) (get_or-set_other x c b row 0 q) ∙ old b a hb t)
          where
            old : Inside n_c u x
            old = d.holds u i m

        -- rows that do not move to c see no change
        sees : (b : ℕ) → b < n_c → has_bit (get_or dependents c 0) b ≡ false → Rule x b ≡ Rule X b
        sees b hb t = rule_same x X b (λ k l u. by_cases (ℕ_discrete k c)
            (λ q. absurd (clash t (ap (λ (l : List ℕ). has_bit (get_or l c 0) b) ed ∙ has_predecessor n_c moves b c few hb due_low ∙ ap (has_bit (get_or moves b 0)) (sym q) ∙ u)))
            (λ q. sym (get_or-set_other x c k row 0 q)))

        no_more : (b : ℕ) → has_bit (bit_or (rest_of due) (get_or dependents c 0)) b ≡ false → (has_bit (rest_of due) b ≡ false) × (has_bit (get_or dependents c 0) b ≡ false)
        no_more b t = or_none _ _ (sym (has_or b (rest_of due) (get_or dependents c 0)) ∙ t)

        pub shrinking_lowered : Shrinking start X (set reached c (partners_of predecessors row)) (bit_or (rest_of due) (get_or dependents c 0))
        shrinking_lowered = record {
          small = or_lt 64 (rest_of due) (get_or dependents c 0) (rest_small 64 due some_due d.small) (rw ed (predecessors_small n_c moves c few));
          low = λ b t. ⊎_elim
              (λ u. d.low b (rest_has 64 due some_due d.small b u))
              (λ u. predecessor_low n_c moves b c few (ap (λ (l : List ℕ). has_bit (get_or l c 0) b) (sym ed) ∙ u)) (or_e (sym (has_or b (rest_of due) (get_or dependents c 0)) ∙ t));
          long = length-set x c row ∙ d.long;
          reached_is = ap (λ (r : List ℕ). set r c (partners_of predecessors row)) d.reached_is ∙ reached_set x c row few d.long due_low;
          beyond = λ b l. get_or-set_other x c b row 0 (omega (arith, due_low)) ∙ d.beyond b l;
          below = λ b. by_cases (ℕ_discrete b c)
              (λ q. rw (q, at_c, er) (omega (arith, and_le_l (get_or x c 0) (bit_or (get_or base c 0) (cond (has_bit members c) 0 (meet_of (get_or moves c 0) reached))), d.below c)))
              (λ q. rw (get_or-set_other x c b row 0 q) (d.below b));
          inside = λ b a hb t. d.inside b a hb (lower b a t);
          holds = kept;
          settled = λ b a hb t u.
              let n = no_more b t in
              rw (← sees b hb n.1) (by_cases (ℕ_discrete b c)
              (λ q. rw q (row_bit a (ap (λ (m : ℕ). has_bit m a) (sym er ∙ sym at_c ∙ ap (λ (i : ℕ). get_or X i 0) (sym q)) ∙ u)).1)
              (λ q. d.settled b a hb (not_due b n.0 q) (lower b a u)));
        }

    pub shrinking_done : {x reached : List ℕ} {due : ℕ} → due ≡ 0 → Shrinking start x reached due → Largest n_c moves predecessors base members start x
    shrinking_done z d = record {
      long = d.long;
      beyond = d.beyond;
      below = d.below;
      inside = d.inside;
      meets = λ c a hc t. d.settled c a hc (ap (λ (m : ℕ). has_bit m c) z ∙ has_none c) t;
      largest = d.holds;
    }

-- rows fall as numbers where one is lowered
pub lowered_falls : (x : List ℕ) (c row : ℕ) → c < 64 → row ≤ get_or x c 0 → (row ≡ get_or x c 0 → ⊥) → sum 64 (λ i. get_or (set x c row) i 0) < sum 64 (λ i. get_or x i 0)
lowered_falls x c row hc h n = by_cases (dec_lt (sum 64 (λ i. get_or (set x c row) i 0)) (sum 64 (λ i. get_or x i 0))) (λ l. l)
    (λ l. absurd (n (omega (arith, same (omega arith), at_c))))
  where
    long : c < length x
    long = by_cases (dec_lt c (length x)) (λ l. l) (λ l. absurd (n (omega (arith, get_or-eq_default x 0 {n = c} (omega arith)))))

    at_c : get_or (set x c row) c 0 ≡ row
    at_c = get_or-set_same x c row 0 long

    lower_row : (i : ℕ) → i < 64 → get_or (set x c row) i 0 ≤ get_or x i 0
    lower_row i l = by_cases (ℕ_discrete i c) (λ q. rw (q, at_c) h) (λ q. rw (get_or-set_other x c i row 0 q) (omega arith))

    same : sum 64 (λ i. get_or x i 0) ≤ sum 64 (λ i. get_or (set x c row) i 0) → get_or x c 0 ≤ get_or (set x c row) c 0
    same l = sum_eq 64 (λ i. get_or (set x c row) i 0) (λ i. get_or x i 0) lower_row l c hc

-- a number of the loop falls: the sum of the rows, and where that stays the mask of what is due
pub weight_falls : (s t due next : ℕ) → t < s → next < 2 ^ 64 → t * 2 ^ 64 + next < s * 2 ^ 64 + due
weight_falls s t due next h l = let q : suc t * 2 ^ 64 ≤ s * 2 ^ 64 = mul-le-mul_right (2 ^ 64) h in omega arith
