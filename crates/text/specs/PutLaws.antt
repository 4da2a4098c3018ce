-- Laws of a loop that puts bytes at a place.
use Rattle.std.specs.Prelude.{List, [], ◌∷◌, ◌≡◌, refl, ℕ, suc, ◌+◌, ◌≤◌, ◌<◌, length, get_or, drop, set}
use Rattle.std.proofs.Common.{sym, ap, ◌∙◌, add-one, arith, length-set, drop_of_length-le, drop-cons}
use Rattle.std.proofs.lemmas.List.Edits.{sets}
use Rattle.std.proofs.Math.Seq.{set_out}

-- what is left of the word, put at `to`, gives the answer; a place is left for each byte that was put
pub record Put (out₀ : List ℕ) (at : ℕ) (word out : List ℕ) (to i : ℕ) : Type 0 where
  pub answer : sets out to (drop i word) ≡ sets out₀ at word
  pub same : length out ≡ length out₀

-- where there is no room nothing is put
sets_out : (vs l : List ℕ) (i : ℕ) → length l ≤ i → sets l i vs ≡ l
sets_out [] l i h = refl
sets_out (a ∷ vs) l i h = ap (λ (k : List ℕ). sets k (suc i) vs) (set_out l i a h) ∙ sets_out vs l (suc i) (omega arith)

module _ {out₀ : List ℕ} {at : ℕ} {word out : List ℕ} {to i : ℕ} (p : Put out₀ at word out to i) where
  pub put_more : i < length word → Put out₀ at word (set out to (get_or word i 0)) (to + 1) (i + 1)
  put_more l = record {
    answer =
        ap (λ (t : ℕ). sets (set out to (get_or word i 0)) t (drop (i + 1) word)) (add-one to)
        ∙ ap (λ (k : ℕ). sets (set out to (get_or word i 0)) (suc to) (drop k word)) (add-one i)
        ∙ ap (sets out to) (sym (drop-cons word i 0 l))
        ∙ p.answer;
    same = length-set out to (get_or word i 0) ∙ p.same;
  }

  pub put_full : length out ≤ to → out ≡ sets out₀ at word
  put_full h = sym (sets_out (drop i word) out to h) ∙ p.answer

  pub put_done : length word ≤ i → out ≡ sets out₀ at word
  put_done h = ap (sets out to) (sym (drop_of_length-le word h)) ∙ p.answer

-- a byte, and a word put behind it
pub byte_word : (out after word : List ℕ) (at b : ℕ) → after ≡ sets (set out at b) (at + 1) word → after ≡ sets out at (b ∷ word)
byte_word out after word at b e = e ∙ ap (λ (k : ℕ). sets (set out at b) k word) (add-one at)
