-- Laws of words that are put behind a text one after the other, each as much of it as there is room for: together they are cut once.
use mathlib.Core.List.{List, [], ◌∷◌, ◌++◌, flatten, append-nil}
use Rattle.std.specs.Prelude.{◌≡◌, refl, ℕ, ◌+◌, ◌-◌, ◌≤◌, min, length, take}
use Rattle.std.proofs.Common.{sym, ap, ◌∙◌, arith, take_all, length-take-le}
use Rattle.std.proofs.lemmas.List.{take-append-le, append_assoc, length-take}
use Rattle.std.proofs.Math.Seq.{take-append-add}
use Rattle.std.proofs.Math.Logic.{by_cases}
use Rattle.std.proofs.Math.Decide.{dec_lt}

-- what is put behind a text, as much as there is room for
pub put_behind : (n : ℕ) (xs ys : List ℕ) {k : ℕ} → length xs ≤ n → k ≡ min (length ys) (n - length xs) → xs ++ take k ys ≡ take n (xs ++ ys)
put_behind n xs ys {k} h e =
    let room : length xs + (n - length xs) ≡ n = omega arith in
    let same : take k ys ≡ take (n - length xs) ys =
    by_cases (dec_lt (length ys) (n - length xs))
    (λ l. take_all k ys (omega arith) ∙ sym (take_all (n - length xs) ys (omega arith)))
    (λ l. let z : k ≡ n - length xs = omega arith in ap (λ (i : ℕ). take i ys) z) in
    ap (λ (z : List ℕ). xs ++ z) same ∙ sym (take-append-add xs ys (n - length xs)) ∙ ap (λ (i : ℕ). take i (xs ++ ys)) room

-- behind a text that was cut already
pub cut_behind : (n : ℕ) (xs ys : List ℕ) → take n (take n xs ++ ys) ≡ take n (xs ++ ys)
cut_behind n xs ys = by_cases (dec_lt n (length xs))
    (λ l. let full : length (take n xs) ≡ n = length-take-le n xs (omega arith) in
    take-append-le n (take n xs) ys (omega arith) ∙ take_all n (take n xs) (omega arith) ∙ sym (take-append-le n xs ys (omega arith)))
    (λ l. ap (λ (z : List ℕ). take n (z ++ ys)) (take_all n xs (omega arith)))

pub cut_two : (n : ℕ) (xs ys zs : List ℕ) → take n (take n (xs ++ ys) ++ zs) ≡ take n (xs ++ (ys ++ zs))
cut_two n xs ys zs = cut_behind n (xs ++ ys) zs ∙ ap (take n) (append_assoc xs ys zs)

-- behind a text that is known but for its cut
pub behind : (n : ℕ) (xs ys : List ℕ) {l m : List ℕ} → l ≡ take n xs → m ≡ take n (l ++ ys) → m ≡ take n (xs ++ ys)
behind n xs ys e f = f ∙ ap (λ (z : List ℕ). take n (z ++ ys)) e ∙ cut_behind n xs ys

-- words that are put behind a text x one after the other in a room of n bytes, and the text y behind them
pub data Appended (n : ℕ) : List ℕ → List (List ℕ) → List ℕ → Type 0 where
  last : {x w y : List ℕ} → y ≡ take n (x ++ w) → Appended n x (w ∷ []) y
  next : {x w y z : List ℕ} {ws : List (List ℕ)} → y ≡ take n (x ++ w) → Appended n y ws z → Appended n x (w ∷ ws) z

pub appended : (n : ℕ) (x : List ℕ) (ws : List (List ℕ)) {y : List ℕ} → Appended n x ws y → y ≡ take n (x ++ flatten ws)
unfolding flatten
appended n x ws s = go s
  where
    go : {u v : List ℕ} {vs : List (List ℕ)} → Appended n u vs v → v ≡ take n (u ++ flatten vs)
    go {u} (last {w} e) = e ∙ ap (λ (v : List ℕ). take n (u ++ v)) (sym (append-nil w))
    go {u} (next {w} {ws} e s) = go s ∙ ap (λ (v : List ℕ). take n (v ++ flatten ws)) e ∙ cut_two n u w (flatten ws)

-- behind an empty text
pub appended_new : (n : ℕ) (ws : List (List ℕ)) {x y : List ℕ} → x ≡ [] → Appended n x ws y → y ≡ take n (flatten ws)
appended_new n ws {x} e s = appended n x ws s ∙ ap (λ (v : List ℕ). take n (v ++ flatten ws)) e

-- a loop that puts `all` behind x: with the rest put behind y too, the text is there
pub record Left (n : ℕ) (x all y rest : List ℕ) : Type 0 where
  pub answer : take n (y ++ rest) ≡ take n (x ++ all)
  pub fits : length y ≤ n

-- nothing is put yet
pub left_all : {n : ℕ} {x : List ℕ} (all : List ℕ) → length x ≤ n → Left n x all x all
left_all all h = record { answer = refl; fits = h }

-- a first word is put
pub left_first : {n : ℕ} {x all y : List ℕ} (w v : List ℕ) → all ≡ w ++ v → y ≡ take n (x ++ w) → Left n x all y v
left_first {n} {x} w v e f = record {
  answer = ap (λ (u : List ℕ). take n (u ++ v)) f ∙ cut_two n x w v ∙ ap (λ (u : List ℕ). take n (x ++ u)) (sym e);
  fits = omega (arith, ap length f, length-take n (x ++ w));
}

module _ {n : ℕ} {x all y rest : List ℕ} (l : Left n x all y rest) where
  pub left_to : {v : List ℕ} → rest ≡ v → Left n x all y v
  left_to e = record { answer = ap (λ (v : List ℕ). take n (y ++ v)) (sym e) ∙ l.answer; fits = l.fits }

  -- the next word is put
  pub left_next : (w v : List ℕ) {z : List ℕ} → rest ≡ w ++ v → z ≡ take n (y ++ w) → Left n x all z v
  left_next w v e f = let next = left_first w v e f in record { answer = next.answer ∙ l.answer; fits = next.fits }

  -- nothing is left
  pub left_none : rest ≡ [] → y ≡ take n (x ++ all)
  left_none e = sym (take_all n y l.fits) ∙ ap (take n) (sym (append-nil y) ∙ ap (λ (v : List ℕ). y ++ v) (sym e)) ∙ l.answer

-- nothing is put
pub put_none : (n : ℕ) (x w : List ℕ) → length x ≤ n → w ≡ [] → x ≡ take n (x ++ w)
put_none n x w h e = left_none (left_all w h) e
