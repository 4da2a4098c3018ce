-- Laws of a line that is put together from its front, and of the two lines.
use mathlib.Core.List.{List, [], ◌∷◌, ◌++◌, flatten, append_assoc}
use Rattle.std.specs.Prelude.{◌≡◌, length, get_or, take}
use Rattle.std.proofs.Math.Path.{refl, ap}
use Rattle.std.proofs.Common.{sym, ap₂, ◌∙◌, add-one, arith, length-append, take_all}
use Prim.Native.Nat.{ℕ, zero, suc, ◌+◌, ◌*◌, ◌^◌, ◌≤◌, ◌<◌, min}
use Rattle.text.specs.Decimal.{decimal}
use Rattle.text.specs.DecimalLaws.{decimal_most, decimal_short}
use Rattle.machine.specs.declared.Pair.{Pair}
use Rattle.machine.specs.Machines.{sets_a}
use Rattle.machine.specs.Observed.{matched_masks}
use Rattle.turnline.specs.Lines.{still_count, numbers_text, turn_text, turn_line, finished_text, finished_line, rows_count}
use Rattle.turnline.specs.CountLaws.{rows_most, still_count_lem}

-- ---- the finish
pub finished_line_lem : (t : ℕ) → take 128 (flatten (finished_text ∷ decimal t ∷ (10 ∷ []) ∷ [])) ≡ finished_line t
unfolding finished_line flatten
finished_line_lem t =
    let line : List ℕ = finished_text ++ (decimal t ++ (10 ∷ [])) in
    let short : length line ≤ 128 = simp length-append (omega (arith, decimal_most t)) in
    take_all 128 line short ∙ sym (append_assoc finished_text (decimal t) (10 ∷ []))

-- ---- a turn
-- the counts of the first j sections are told
abbrev pub told : List ℕ → List ℕ → ℕ → ℕ → List ℕ
told M F t j = turn_text ++ decimal t ++ numbers_text j (rows_count M F)

pub told_none : (M F : List ℕ) (t : ℕ) → flatten (turn_text ∷ decimal t ∷ []) ≡ told M F t 0
unfolding numbers_text flatten
told_none M F t = sym (append_assoc turn_text (decimal t) [])

pub told_more : (M F : List ℕ) (t j n : ℕ) → n ≡ rows_count M F j → told M F t j ++ (32 ∷ decimal n) ≡ told M F t (j + 1)
unfolding numbers_text
told_more M F t j n c =
    let front : List ℕ = turn_text ++ decimal t in
    let f = rows_count M F in
    append_assoc front (numbers_text j f) (32 ∷ decimal n)
    ∙ ap (λ (x : ℕ). front ++ (numbers_text j f ++ (32 ∷ decimal x))) c
    ∙ ap (λ (x : ℕ). front ++ numbers_text x f) (sym (add-one j))

-- each has at most five bytes
numbers_most : (M F : List ℕ) (n : ℕ) → length (numbers_text n (rows_count M F)) ≤ 5 * n
unfolding numbers_text
numbers_most M F zero = omega arith
numbers_most M F (suc n) =
    let few : length (decimal (rows_count M F n)) ≤ 4 = decimal_short 3 (rows_count M F n) (omega (arith, rows_most M F n)) (omega (arith, rows_most M F n)) in
    omega (arith, length-append (numbers_text n (rows_count M F)) (32 ∷ decimal (rows_count M F n)), numbers_most M F n, few)

numbers_cong : (n : ℕ) (f g : ℕ → ℕ) → ((i : ℕ) → i < n → f i ≡ g i) → numbers_text n f ≡ numbers_text n g
unfolding numbers_text
numbers_cong zero f g h = refl
numbers_cong (suc n) f g h =
    ap₂ (λ (s : List ℕ) (x : ℕ). s ++ (32 ∷ decimal x)) (numbers_cong n f g (λ i l. h i (omega arith))) (h n (omega arith))

-- all of them, and a line feed
module _ (p : Pair) {M : List ℕ} (F : List ℕ) (t : ℕ) {n : ℕ} (masks : M ≡ matched_masks p) (all : n ≡ min (sets_a p) 7) where
  counts : ((e : ℕ) → get_or F e 0 < 2 ^ 64) → numbers_text n (rows_count M F) ≡ numbers_text (min (sets_a p) 7) (still_count p F)
  counts small =
      ap₂ (λ (k : ℕ) (X : List ℕ). numbers_text k (rows_count X F)) all masks
      ∙ numbers_cong (min (sets_a p) 7) (rows_count (matched_masks p) F) (still_count p F) (λ j l. still_count_lem p F j (omega arith) small)

  pub turn_line_lem : ((e : ℕ) → get_or F e 0 < 2 ^ 64) → take 128 (told M F t n ++ (10 ∷ [])) ≡ turn_line p t F
  unfolding turn_line
  turn_line_lem small =
      let line : List ℕ = told M F t n ++ (10 ∷ []) in
      let short : length line ≤ 128 = simp length-append (omega (arith, decimal_most t, numbers_most M F n, all)) in
      take_all 128 line short ∙ ap (λ (s : List ℕ). turn_text ++ decimal t ++ s ++ (10 ∷ [])) (counts small)
