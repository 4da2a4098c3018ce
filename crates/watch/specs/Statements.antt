-- What is shown of the solver by turns on a file's bytes. Each statement is a type; Theorems.antt gives its proof, by name.
use Rattle.std.specs.Prelude.{true, List, ◌≡◌, ℕ, length, Err}
use Rattle.machine.specs.declared.Refusal.{Refusal}
use Rattle.machine.specs.Refusals.{valid}
use Rattle.machine.specs.WellFormed.{well_formed, nonempty_sets}
use Rattle.codec.specs.Reader.{pair_of}
use Rattle.progress.specs.Turns.{first_given, turn_answer, turn_family, turn_table, look_up_answer}
use Rattle.watch.specs.Watching.{first_file, first_file_rows, turn_file, turn_file_rows, turn_file_table, look_up_file}

module _ (f : List ℕ) where
  -- of a file that has a first family, each call says and leaves what it does of the file's machines, for any family and any lent table; and these are
  -- machines of which progress/specs/Statements.antt speaks
  pub record OfMachines : Type 0 where
    pub well : well_formed (pair_of f) ≡ true
    pub nonempty : nonempty_sets (pair_of f) ≡ true
    pub first : (F : List ℕ) → first_file_rows f F ≡ first_given (pair_of f)
    pub said : (F : List ℕ) (room : ℕ) → turn_file f F room ≡ turn_answer (pair_of f) F room
    pub rows : (F : List ℕ) (room : ℕ) → turn_file_rows f F room ≡ turn_family (pair_of f) F room
    pub entries : (F T : List ℕ) → turn_file_table f F T ≡ turn_table (pair_of f) F T
    pub looked : (F : List ℕ) (j c a : ℕ) → look_up_file f F j c a ≡ look_up_answer (pair_of f) F j c a

  abbrev pub CallsOfMachines : Type 0
  CallsOfMachines = first_file f ≡ valid → OfMachines

  -- a refusal "changes no lent buffer", and "a state handed in comes back unchanged"
  abbrev pub RefusalsLeave : Type 0
  RefusalsLeave = (r : Refusal) (F T : List ℕ)
      → (first_file f ≡ Err r → first_file_rows f F ≡ F) × (turn_file f F (length T) ≡ Err r → (turn_file_rows f F (length T) ≡ F) × (turn_file_table f F T ≡ T))
