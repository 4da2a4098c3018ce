-- Laws of the loops over entries: the states of a row, the rows of a section, a part that comes back.
use Rattle.std.specs.Prelude.{Bool, ◌⊎◌, ◌≡◌, ℕ, zero, suc, ◌+◌, ◌-◌, ◌*◌, ◌/◌, ◌%◌, ◌^◌, ◌≤◌, ◌<◌, eqb, leb, set, take, drop}
use Rattle.std.proofs.Math.Bool.{true, false, cond}
use mathlib.Core.List.{List, ◌++◌}
use Rattle.std.proofs.Common.{inl, inr, ⊎_elim, sym, ◌∙◌, mul-le-mul_right, arith, length-set, length-append, length-take, length-drop, ext_get_or, get_or-set_same, get_or-set_other, get_or-append-add, get_or-take}
use Rattle.std.proofs.Math.Logic.{by_cases}
use Rattle.std.proofs.Math.Path.{refl, ap}
use Rattle.std.proofs.Math.Decide.{dec_lt, dec_le, ℕ_discrete}
use Rattle.std.proofs.Math.Arith.{digits_div, digits_mod}
use Rattle.std.specs.Int.Bits.{bit_and, bit_xor, differ, xor_step}
use Rattle.std.proofs.Math.ListN.{length, get_or, get_or-append}
use Rattle.std.proofs.Math.Seq.{get_or-drop}
use borrow.Author.Tests.{eq-eqb, ne_eqb, le-leb, lt-leb}
use Rattle.mask.specs.Logic.{not, and, or}
use Rattle.mask.specs.LogicLaws.{and_i, and_true_r, not_i}
use Rattle.mask.specs.Bits.{has_bit, lowest_of, rest_of}
use Rattle.mask.specs.BitsLaws.{parity, has_zero, has_suc, has_none, has_and, has_rest, lowest_set}
use Rattle.mask.specs.WalkLaws.{rest_drops, rest_has, rest_small}
use Rattle.mask.specs.Tables.{mask_of}
use Rattle.mask.specs.TablesLaws.{table_length, table_at, fill_done, mask_of_cong}
use Rattle.rows.specs.RowsLaws.{area}
use Rattle.rows.specs.Entries.{row_upto, upto_rows, upto_of, without, write_row, write_rows, write_of, row_count}

-- ---- the states of one mask that are not in another
unlike : Bool → Bool → Bool
unlike x y = or (and x (not y)) (and (not x) y)

differ_lt : (a b : ℕ) → differ (a % 2) (b % 2) < 2
differ_lt a b = go (parity a) (parity b)
  where
    go : (a % 2 ≡ 0) ⊎ (a % 2 ≡ 1) → (b % 2 ≡ 0) ⊎ (b % 2 ≡ 1) → differ (a % 2) (b % 2) < 2
    go (inl e) (inl f) = rw (e, f) (omega arith)
    go (inl e) (inr f) = rw (e, f) (omega arith)
    go (inr e) (inl f) = rw (e, f) (omega arith)
    go (inr e) (inr f) = rw (e, f) (omega arith)

differ_bits : (a b : ℕ) → eqb (differ (a % 2) (b % 2)) 1 ≡ unlike (eqb (a % 2) 1) (eqb (b % 2) 1)
unfolding unlike and or not
differ_bits a b = go (parity a) (parity b)
  where
    go : (a % 2 ≡ 0) ⊎ (a % 2 ≡ 1) → (b % 2 ≡ 0) ⊎ (b % 2 ≡ 1) → eqb (differ (a % 2) (b % 2)) 1 ≡ unlike (eqb (a % 2) 1) (eqb (b % 2) 1)
    go (inl e) (inl f) = rw (e, f)
    go (inl e) (inr f) = rw (e, f)
    go (inr e) (inl f) = rw (e, f)
    go (inr e) (inr f) = rw (e, f)

has_xor : (i a b : ℕ) → has_bit (bit_xor a b) i ≡ unlike (has_bit a i) (has_bit b i)
has_xor zero a b =
    let e : (bit_xor (a / 2) (b / 2) * 2 + differ (a % 2) (b % 2)) % 2 ≡ differ (a % 2) (b % 2) = omega (arith, differ_lt a b) in
    rw (has_zero, has_zero, has_zero, xor_step, e) (differ_bits a b)
has_xor (suc i) a b =
    let e : (bit_xor (a / 2) (b / 2) * 2 + differ (a % 2) (b % 2)) / 2 ≡ bit_xor (a / 2) (b / 2) = omega (arith, differ_lt a b) in
    rw (has_suc, has_suc, has_suc, xor_step, e) (has_xor i (a / 2) (b / 2))

pub has_without : (i x y : ℕ) → has_bit (without x y) i ≡ and (has_bit x i) (not (has_bit y i))
unfolding without unlike and or not
has_without i x y = has_xor i x (bit_and x y) ∙ ap (unlike (has_bit x i)) (has_and i x y) ∙ go (has_bit x i) (has_bit y i)
  where
    go : (a b : Bool) → unlike a (and a b) ≡ and a (not b)
    go true true = refl
    go true false = refl
    go false b = refl

-- ---- one row
-- the states of the row that are not left have their entry, and nothing else is changed
pub record Writing (row v : ℕ) (part : List ℕ) (left : ℕ) (l : List ℕ) : Type 0 where
  pub small : left < 2 ^ 64
  pub inside : (a : ℕ) → has_bit left a ≡ true → has_bit row a ≡ true
  pub long : length l ≡ length part
  pub entry : (a : ℕ) → a < length part → get_or l a 0 ≡ cond (and (has_bit row a) (not (has_bit left a))) v (get_or part a 0)

module _ {row v : ℕ} {part : List ℕ} where
  pub writing_start : row < 2 ^ 64 → Writing row v part row part
  unfolding and not
  writing_start h = record { small = h; inside = λ a t. t; long = refl; entry = λ a l. none a (has_bit row a) }
    where
      none : (a : ℕ) (b : Bool) → get_or part a 0 ≡ cond (and b (not b)) v (get_or part a 0)
      none a true = refl
      none a false = refl

  module _ {left a : ℕ} {l : List ℕ} (e : a ≡ lowest_of 64 left) (z : left ≡ 0 → ⊥) (d : Writing row v part left l) where
    some_left : 0 < left
    some_left = omega arith

    -- the state that is taken is in the row
    taken : has_bit row a ≡ true
    taken = d.inside a (ap (has_bit left) e ∙ lowest_set 64 left some_left d.small)

    kept : (i : ℕ) → (i ≡ a → ⊥) → has_bit (rest_of left) i ≡ has_bit left i
    kept i s = has_rest 64 left i some_left d.small ∙ and_true_r _ (not_i (ne_eqb i (lowest_of 64 left) (λ u. s (u ∙ sym e))))

    -- a state past the entries has none
    pub writing_skip : length part ≤ a → Writing row v part (rest_of left) l
    writing_skip h = record {
      small = rest_small 64 left some_left d.small;
      inside = λ i t. d.inside i (rest_has 64 left some_left d.small i t);
      long = d.long;
      entry = λ i q. d.entry i q ∙ rw (kept i (omega arith));
    }

    pub writing_turn : a < length l → Writing row v part (rest_of left) (set l a v)
    writing_turn h = record {
      small = rest_small 64 left some_left d.small;
      inside = λ i t. d.inside i (rest_has 64 left some_left d.small i t);
      long = length-set l a v ∙ d.long;
      entry = λ i q. by_cases (ℕ_discrete i a) (λ s. rw s here) (λ s. there i q s);
    }
      where
        here : get_or (set l a v) a 0 ≡ cond (and (has_bit row a) (not (has_bit (rest_of left) a))) v (get_or part a 0)
        here =
            let t : and (has_bit row a) (not (has_bit (rest_of left) a)) ≡ true =
            and_i taken (not_i (ap (has_bit (rest_of left)) e ∙ rest_drops 64 left some_left d.small)) in
            rw t (get_or-set_same l a v 0 h)

        there : (i : ℕ) → i < length part → (i ≡ a → ⊥) → get_or (set l a v) i 0 ≡ cond (and (has_bit row i) (not (has_bit (rest_of left) i))) v (get_or part i 0)
        there i q s = get_or-set_other l a i v 0 s ∙ d.entry i q ∙ rw (kept i s)

  pub writing_done : {left : ℕ} {l : List ℕ} → left ≡ 0 → Writing row v part left l → l ≡ write_row row v part
  unfolding write_row
  writing_done {left} {l} z d = fill_done 0 (length part) l _ d.long
      (λ a h. d.entry a h ∙ ap (λ (b : Bool). cond b v (get_or part a 0)) (and_true_r _ (not_i (ap (λ (m : ℕ). has_bit m a) z ∙ has_none a))))

-- ---- a part of a list that has come back as ys
abbrev pub patch : List ℕ → ℕ → List ℕ → ℕ → List ℕ
patch xs a ys k = take a xs ++ (ys ++ drop k (drop a xs))

module _ (xs ys : List ℕ) (a k : ℕ) (h : a + k ≤ length xs) (s : length ys ≡ k) where
  front : length (take a xs) ≡ a
  front = length-take a xs ∙ omega arith

  pub patch_length : length (patch xs a ys k) ≡ length xs
  patch_length =
      length-append (take a xs) (ys ++ drop k (drop a xs))
      ∙ omega (arith, front, length-append ys (drop k (drop a xs)), length-drop k (drop a xs), length-drop a xs)

  pub patch_before : (e : ℕ) → e < a → get_or (patch xs a ys k) e 0 ≡ get_or xs e 0
  patch_before e l = get_or-append (take a xs) _ 0 e (omega (arith, front)) ∙ get_or-take a xs e 0 l

  past : (i : ℕ) → get_or (patch xs a ys k) (a + i) 0 ≡ get_or (ys ++ drop k (drop a xs)) i 0
  past i = ap (λ (n : ℕ). get_or (patch xs a ys k) (n + i) 0) (sym front) ∙ get_or-append-add (take a xs) (ys ++ drop k (drop a xs)) i 0

  pub patch_in : (i : ℕ) → i < k → get_or (patch xs a ys k) (a + i) 0 ≡ get_or ys i 0
  patch_in i l = past i ∙ get_or-append ys _ 0 i (omega arith)

  pub patch_after : (e : ℕ) → a + k ≤ e → get_or (patch xs a ys k) e 0 ≡ get_or xs e 0
  patch_after e l =
      let i = e - (a + k) in
      let q : e ≡ a + (k + i) = omega arith in
      rw q (past (k + i) ∙ ap (λ (n : ℕ). get_or (ys ++ drop k (drop a xs)) (n + i) 0) (sym s) ∙ get_or-append-add ys (drop k (drop a xs)) i 0
      ∙ get_or-drop k (drop a xs) i 0 ∙ get_or-drop a xs (k + i) 0)

-- ---- the rows of a section
-- row c lies within the section, and the section is small
pub row_fits : {n_c n_a c : ℕ} → n_c ≤ 64 → n_a ≤ 64 → c < n_c → (c * n_a + n_a ≤ n_c * n_a) × (n_c * n_a ≤ 4096)
row_fits {n_c} {n_a} {c} h k l =
    let q : suc c * n_a ≤ n_c * n_a = mul-le-mul_right n_a l in
    (omega arith, area h k)

pub cut_long : (k a : ℕ) (l : List ℕ) → a + k ≤ length l → length (take k (drop a l)) ≡ k
cut_long k a l h = length-take k (drop a l) ∙ omega (arith, length-drop a l)

module _ (n_a : ℕ) (x y : List ℕ) (v : ℕ) (part : List ℕ) where
  abbrev Entry : ℕ → ℕ
  Entry e = cond (has_bit (without (get_or x (e / n_a) 0) (get_or y (e / n_a) 0)) (e % n_a)) v (get_or part e 0)

  -- the rows below c are written
  pub record Written (c : ℕ) (l : List ℕ) : Type 0 where
    pub long : length l ≡ length part
    pub done : (e : ℕ) → e < c * n_a → get_or l e 0 ≡ Entry e
    pub rest : (e : ℕ) → c * n_a ≤ e → get_or l e 0 ≡ get_or part e 0

  pub written_start : Written 0 part
  written_start = record { long = refl; done = λ e h. absurd (omega arith); rest = λ e h. refl }

  module _ {c : ℕ} {l ys : List ℕ} {a k : ℕ} (ea : a ≡ c * n_a) (ek : k ≡ n_a) (fits : c * n_a + n_a ≤ length part)
      (ey : ys ≡ write_row (without (get_or x c 0) (get_or y c 0)) v (take k (drop a l))) (d : Written c l) where
    part_long : length (take k (drop a l)) ≡ k
    part_long = cut_long k a l (omega (arith, d.long))

    long : length ys ≡ k
    unfolding write_row
    long = ap length ey ∙ table_length _ _ ∙ part_long

    at : (i : ℕ) → i < n_a → get_or ys i 0 ≡ cond (has_bit (without (get_or x c 0) (get_or y c 0)) i) v (get_or part (c * n_a + i) 0)
    unfolding write_row
    at i h =
        ap (λ (q : List ℕ). get_or q i 0) ey
        ∙ table_at (length (take k (drop a l))) _ i 0 (omega (arith, part_long))
        ∙ ap (λ (e : ℕ). cond (has_bit (without (get_or x c 0) (get_or y c 0)) i) v e)
        (get_or-take k (drop a l) i 0 (omega arith) ∙ get_or-drop a l i 0 ∙ ap (λ (n : ℕ). get_or l (n + i) 0) ea ∙ d.rest (c * n_a + i) (omega arith))

    pub written_turn : Written (c + 1) (patch l a ys k)
    written_turn = record {
      long = patch_length l ys a k (omega (arith, d.long)) long ∙ d.long;
      done = λ e h. by_cases (dec_lt e (c * n_a))
          (λ q. patch_before l ys a k (omega (arith, d.long)) long e (omega arith) ∙ d.done e q)
          (λ q. inside (e - c * n_a) e (omega arith) (omega arith));
      rest = λ e h. patch_after l ys a k (omega (arith, d.long)) long e (omega arith) ∙ d.rest e (omega arith);
    }
      where
        inside : (i e : ℕ) → i < n_a → e ≡ c * n_a + i → get_or (patch l a ys k) e 0 ≡ Entry e
        inside i e h q =
            let z : e ≡ a + i = omega arith in
            ap (λ (n : ℕ). get_or (patch l a ys k) n 0) z ∙ patch_in l ys a k (omega (arith, d.long)) long i (omega arith) ∙ at i h
            ∙ rw (q, digits_div c h, digits_mod c h)

  pub written_done : {c : ℕ} {l : List ℕ} → length part ≡ c * n_a → Written c l → l ≡ write_rows n_a x y v part
  unfolding write_rows
  written_done e d = fill_done 0 (length part) _ _ d.long (λ i h. d.done i (omega arith))

-- ---- a row of a section, by its states
pub row_part : (n_a c k : ℕ) (part : List ℕ) (bound : ℕ) → k ≡ n_a → c * n_a + n_a ≤ length part
    → row_upto (take k (drop (c * n_a) part)) bound ≡ mask_of n_a (λ a. leb (get_or part (c * n_a + a) 0) bound)
unfolding row_upto
row_part n_a c k part bound e h = rw (cut_long k (c * n_a) part (omega arith), e) (mask_of_cong n_a _ _ (λ a l.
    ap (λ (x : ℕ). leb x bound) (get_or-take n_a (drop (c * n_a) part) a 0 l ∙ get_or-drop (c * n_a) part a 0)))

pub upto_long : (n_c n_a : ℕ) (part : List ℕ) (bound : ℕ) → length (upto_rows n_c n_a part bound) ≡ 64
unfolding upto_rows
upto_long n_c n_a part bound = table_length 64 _

-- ---- entries that are a section, and others
sections : (n_c n_a len : ℕ) → ((n_c ≤ 64) × (n_a ≤ 64) × (len ≡ n_c * n_a) × (row_count n_c n_a len ≡ n_c)) ⊎ (row_count n_c n_a len ≡ 0)
unfolding row_count
sections n_c n_a len = by_cases (dec_le n_c 64)
    (λ h. by_cases (dec_le n_a 64)
    (λ k. by_cases (ℕ_discrete len (n_c * n_a))
    (λ e. inl (h, k, e, rw (le-leb n_c 64 h, le-leb n_a 64 k, eq-eqb len (n_c * n_a) e)))
    (λ e. inr (rw (le-leb n_c 64 h, le-leb n_a 64 k, ne_eqb len (n_c * n_a) e))))
    (λ k. inr (rw (le-leb n_c 64 h, lt-leb n_a 64 (omega arith)))))
    (λ h. inr (rw (lt-leb n_c 64 (omega arith))))

module _ (n_c n_a len : ℕ) where
  -- the rows of entries that have some are those of a section
  pub section_some : {end c : ℕ} → end ≡ row_count n_c n_a len → c < end → (end ≡ n_c) × (n_c ≤ 64) × (n_a ≤ 64) × (len ≡ n_c * n_a)
  section_some e l = ⊎_elim (λ q. (e ∙ q.3, q.0, q.1, q.2)) (λ q. absurd (omega arith)) (sections n_c n_a len)

  pub section_few : {end : ℕ} → end ≡ row_count n_c n_a len → end ≤ 64
  section_few e = ⊎_elim (λ q. omega (arith, q.3, q.0)) (λ q. omega arith) (sections n_c n_a len)

  pub section_is : n_c ≤ 64 → n_a ≤ 64 → len ≡ n_c * n_a → row_count n_c n_a len ≡ n_c
  unfolding row_count
  section_is h k e = rw (le-leb n_c 64 h, le-leb n_a 64 k, eq-eqb len (n_c * n_a) e)

pub upto_is : (n_c n_a : ℕ) (part : List ℕ) (bound : ℕ) → n_c ≤ 64 → n_a ≤ 64 → length part ≡ n_c * n_a → upto_of n_c n_a part bound ≡ upto_rows n_c n_a part bound
unfolding upto_of
upto_is n_c n_a part bound h k e = rw (section_is n_c n_a (length part) h k e)

pub write_entry_is : (n_c n_a : ℕ) (x y : List ℕ) (v : ℕ) (part : List ℕ) → n_c ≤ 64 → n_a ≤ 64 → length part ≡ n_c * n_a → write_of n_c n_a x y v part ≡ write_rows n_a x y v part
unfolding write_of write_rows
write_entry_is n_c n_a x y v part h k e = by_cases (ℕ_discrete n_c 0)
    (λ z. let none : length part ≡ 0 = e ∙ rw z (omega arith) in
    rw (section_is n_c n_a (length part) h k e, eq-eqb n_c 0 z) (ext_get_or 0 part _ (sym (table_length _ _)) (λ i l. absurd (omega arith))))
    (λ z. rw (section_is n_c n_a (length part) h k e, ne_eqb n_c 0 z))

-- all rows are written
pub written_whole : (n_c n_a : ℕ) (x y : List ℕ) (v : ℕ) (part : List ℕ) {end c : ℕ} {l : List ℕ} → end ≡ row_count n_c n_a (length part) → c ≡ end → Written n_a x y v part c l
    → l ≡ write_of n_c n_a x y v part
unfolding write_of
written_whole n_c n_a x y v part {end} {c} {l} e z d = by_cases (ℕ_discrete end 0)
    (λ q. rw (← e, eq-eqb end 0 q) (ext_get_or 0 l part d.long (λ i h. d.rest i (none q i))))
    (λ q. let s = section_some n_c n_a (length part) {c = 0} e (omega arith) in
    rw (← e, ne_eqb end 0 q) (written_done n_a x y v part (s.3 ∙ ap (λ (n : ℕ). n * n_a) (sym s.0 ∙ sym z)) d))
  where
    none : end ≡ 0 → (i : ℕ) → c * n_a ≤ i
    none q i = let y : c ≡ 0 = z ∙ q in rw y (omega arith)
