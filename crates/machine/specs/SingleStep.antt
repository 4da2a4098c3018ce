-- What document 02, No. 10, asks of the single step: which state is the chosen one, and what it is to name that. SingleStepLaws.antt proves that it does.
use Rattle.std.specs.Prelude.{Bool, true, ◌↔◌, ◌≡◌, ℕ, ◌^◌, ◌≤◌, ◌<◌, None, Some}
use Rattle.mask.specs.Bits.{has_bit}
use Rattle.machine.specs.Step.{single_step, found}

-- a state of the moves that is in the set
pub record Candidate (moves : ℕ) (S : ℕ → Bool) (a : ℕ) : Type 0 where
  pub below : a < 64
  pub moved : has_bit moves a ≡ true
  pub inside : S a ≡ true

-- a has the least key of these, and is the lowest of those that have it
pub record Best (moves : ℕ) (S : ℕ → Bool) (key : ℕ → ℕ) (a : ℕ) : Type 0 where
  pub candidate : Candidate moves S a
  pub least : (i : ℕ) → Candidate moves S i → key a ≤ key i
  pub lowest : (i : ℕ) → i < a → Candidate moves S i → key a < key i

-- a is the chosen partner in a set S with entries: "least entry, then the present score state if it is among them, then the lowest number"
pub record Chosen (present moves : ℕ) (S : ℕ → Bool) (entries : ℕ → ℕ) (a : ℕ) : Type 0 where
  pub candidate : Candidate moves S a
  pub least : (i : ℕ) → Candidate moves S i → entries a ≤ entries i
  pub stays : Candidate moves S present → entries present ≤ entries a → a ≡ present
  pub lowest : (a ≡ present → ⊥) → (i : ℕ) → i < a → Candidate moves S i → entries a < entries i

-- the single step "shall name the chosen partner, or none exactly if there is none"; of moves of w bits it names a number below w
pub record Names (present moves : ℕ) (S : ℕ → Bool) (entries : ℕ → ℕ) : Type 0 where
  pub chosen : (a : ℕ) → (single_step present moves S entries ≡ Some a) ↔ Chosen present moves S entries a
  pub nobody : (single_step present moves S entries ≡ None) ↔ ((i : ℕ) → Candidate moves S i → ⊥)
  pub width : (w : ℕ) → w ≤ 64 → moves < 2 ^ w → (a : ℕ) → single_step present moves S entries ≡ Some a → a < w

-- for any mask, any set and any entries
abbrev pub NamesChosen : Type 0
NamesChosen = (present moves : ℕ) (S : ℕ → Bool) (entries : ℕ → ℕ) → Names present moves S entries

-- whether there is one does not depend on the present state
abbrev pub FoundAnywhere : Type 0
FoundAnywhere = (moves : ℕ) (S : ℕ → Bool) (entries : ℕ → ℕ) (a b : ℕ) → found (single_step a moves S entries) ≡ found (single_step b moves S entries)
