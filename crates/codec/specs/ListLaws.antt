-- Laws of lists that are tables, joined tables, and runs of stores.
use Rattle.std.specs.Prelude.{◌≡◌, List, [], ◌∷◌, ◌++◌, ℕ, suc, ◌+◌, ◌*◌, ◌/◌, ◌%◌, ◌≤◌, ◌<◌, length, get_or, set, take, drop}
use Rattle.std.proofs.Math.Path.{refl}
use Rattle.std.proofs.Common.{sym, ap, ap₂, ◌∙◌, add-zero, suc-add, add-suc, arith, append_assoc, append-nil, take_at, drop_at, drop-drop, length-drop, get_or-take, get_or-drop, length-take-le}
use Rattle.std.proofs.Math.Arith.{digits_div, digits_mod}
use Rattle.std.proofs.Math.ListN.{drop_of_length-le}
use borrow.Rule.Slice.PartMut.{put_mid}
use Rattle.std.proofs.lemmas.List.Edits.{sets, sets-eq}
use Rattle.mask.specs.Tables.{table}
use Rattle.mask.specs.TablesLaws.{table_cong, table_append, fill_done}

module _ {A : Type 0} where
  -- a list is the table of its own elements
  pub table_of_lem : (d : A) (n : ℕ) (l : List A) → length l ≡ n → table n (λ i. get_or l i d) ≡ l
  table_of_lem d n l e = sym (fill_done d n l (λ i. get_or l i d) e (λ i h. refl))

  -- a table of rows of n, one row more
  pub rows_more : (n count : ℕ) (f : ℕ → ℕ → A) → 0 < n
      → table (n * (count + 1)) (λ i. f (i / n) (i % n)) ≡ table (n * count) (λ i. f (i / n) (i % n)) ++ table n (f count)
  rows_more n count f h =
      let e : n * (count + 1) ≡ n * count + n = omega arith in
      rw e (table_append (n * count) n (λ i. f (i / n) (i % n))
      ∙ ap (λ (l : List A). table (n * count) (λ i. f (i / n) (i % n)) ++ l) (table_cong n _ (f count) row))
    where
      row : (i : ℕ) → i < n → f ((n * count + i) / n) ((n * count + i) % n) ≡ f count i
      row i l =
          let e : n * count + i ≡ count * n + i = omega arith in
          rw (e, digits_div count l, digits_mod count l)

  -- ---- runs of stores
  pub sets_append : (xs ys l : List A) (i : ℕ) → sets (sets l i xs) (i + length xs) ys ≡ sets l i (xs ++ ys)
  sets_append [] ys l i = rw add-zero
  sets_append (x ∷ xs) ys l i =
      ap (λ (k : ℕ). sets (sets (set l i x) (suc i) xs) k ys) (add-suc i (length xs) ∙ sym (suc-add i (length xs))) ∙ sets_append xs ys (set l i x) (suc i)

  -- the same, for the lists that two runs leave, where the second place is known by an equation
  pub sets_then : (l s t xs ys : List A) (i n j : ℕ) → s ≡ sets l i xs → t ≡ sets s j ys → length xs ≡ n → j ≡ i + n → t ≡ sets l i (xs ++ ys)
  sets_then l s t xs ys i n j e f g h = f ∙ rw (e, h, ← g) (sets_append xs ys l i)

  -- a run from the front
  pub sets_front : (l vs : List A) → length vs ≤ length l → sets l 0 vs ≡ vs ++ drop (length vs) l
  sets_front l vs h = let e : 0 + length vs ≡ length vs = omega arith in sets-eq vs l 0 (omega arith) ∙ ap (λ (k : ℕ). vs ++ drop k l) e

-- ---- parts
-- the first elements of a list
pub table_front : (n : ℕ) (l : List ℕ) → n ≤ length l → take n l ≡ table n (λ i. get_or l i 0)
table_front n l h = fill_done 0 n (take n l) (λ i. get_or l i 0) (length-take-le n l h) (λ k q. get_or-take n l k 0 q)

-- a list whose front is written, one part more
pub part_next : (a l ys : List ℕ) (at k : ℕ) → length a ≡ at → length ys ≡ k → put_mid at k (a ++ drop at l) ys ≡ (a ++ ys) ++ drop (at + k) l
part_next a l ys at k e f =
    ap₂ (λ (x y : List ℕ). x ++ (ys ++ drop k y)) (take_at a (drop at l) at e) (drop_at a (drop at l) at e)
    ∙ ap (λ (r : List ℕ). a ++ (ys ++ r)) (drop-drop k at l) ∙ sym (append_assoc a ys (drop (at + k) l))

-- a list that is written to its end
pub part_last : (a l : List ℕ) (n : ℕ) → length l ≤ n → a ++ drop n l ≡ a
part_last a l n h = ap (λ (r : List ℕ). a ++ r) (drop_of_length-le l h) ∙ append-nil a

-- m elements from a place of a list
pub part_table : (s : List ℕ) (at m : ℕ) (g : ℕ → ℕ) → at + m ≤ length s → ((k : ℕ) → k < m → get_or s (at + k) 0 ≡ g k) → take m (drop at s) ≡ table m g
part_table s at m g h e =
    let long : length (take m (drop at s)) ≡ m = length-take-le m (drop at s) (rw (length-drop at s) (omega arith)) in
    fill_done 0 m (take m (drop at s)) g long (λ k q. get_or-take m (drop at s) k 0 q ∙ get_or-drop at s k 0 ∙ e k q)
