-- Laws of the reader's answer: what document 01 says where the code has a case.
use Rattle.std.specs.Prelude.{Bool, ◌≡◌, refl, ℕ, Err, Ok, unwrap_or}
use Rattle.std.proofs.Common.{sym, ap, ap₂, ◌∙◌}
use Rattle.machine.specs.declared.Pair.{Pair}
use Rattle.machine.specs.declared.Refusal.{Refusal}
use Rattle.machine.specs.Refusals.{Answer, answer_in}
use Rattle.codec.specs.declared.Show.{Show}
use Rattle.codec.specs.Reader.{Taken, taken, zero_pair}
use Rattle.codec.specs.Answers.{read_beside, read_of, pair_given, length_of}

-- ---- of a contract `read_of s ≡ a`
pub read_taken : (s : Show) {a : Answer Taken} {note : Bool} → read_of s ≡ a → s.reading ≡ Ok note → a ≡ Ok (taken s.pair note)
unfolding read_of read_beside
read_taken s e z = sym e ∙ ap (read_beside s.pair) z

pub read_refused : (s : Show) {a : Answer Taken} {r : Refusal} → read_of s ≡ a → s.reading ≡ Err r → a ≡ Err r
unfolding read_of read_beside
read_refused s e z = sym e ∙ ap (read_beside s.pair) z

-- ---- what C is told: the answer that there is, or 0
pub length_told : (a : Answer ℕ) → unwrap_or (answer_in a) 0 ≡ length_of a
unfolding answer_in length_of
length_told (Ok n) = refl
length_told (Err r) = refl

-- ---- the machines beside an answer
pub pair_taken : {a : Answer Taken} {p : Pair} {note : Bool} → a ≡ Ok (taken p note) → pair_given a ≡ p
unfolding pair_given
pair_taken e = ap pair_given e

pub pair_refused : {a : Answer Taken} {r : Refusal} → a ≡ Err r → pair_given a ≡ zero_pair
unfolding pair_given
pair_refused e = ap pair_given e

-- ---- both contracts of the reader at once, where it takes a file and where it refuses one
pub shown_taken : (p : Pair) {q : Pair} {m n : Bool} {a : Answer Taken} → a ≡ Ok (taken q n) → p ≡ q → m ≡ n
    → (read_beside p (Ok m) ≡ a) × (p ≡ pair_given a)
unfolding read_beside
shown_taken p e f g = (ap₂ (λ (x : Pair) (y : Bool). Ok (taken x y)) f g ∙ sym e, f ∙ sym (pair_taken e))

pub shown_refused : (s : Show) {r : Refusal} {a : Answer Taken} → a ≡ Err r → read_of s ≡ Err r → s.pair ≡ zero_pair
    → (read_of s ≡ a) × (s.pair ≡ pair_given a)
shown_refused s e f g = (f ∙ sym e, g ∙ sym (pair_refused e))
