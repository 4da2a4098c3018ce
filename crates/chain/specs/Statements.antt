-- What is shown of walks, over the definitions that the contracts cite. Each statement is a type that holds all its hypotheses; Theorems.antt gives a
-- proof of each. Files are a list, of any length, in the order of the walk; file i, counted from 0, is `file fs i`, and past the end of the list an empty one.
use Rattle.std.specs.Prelude.{true, List, [], ◌≡◌, ℕ, zero, suc, ◌+◌, ◌-◌, ◌≤◌, ◌<◌, length, get_or, replicate, Ok, None}
use Rattle.machine.specs.declared.Pair.{Pair}
use Rattle.machine.specs.declared.Verdict.TheVariants.{Carried}
use Rattle.machine.specs.Lassos.{Lasso, is_play, SameObservations}
use Rattle.machine.specs.Table.{table_room}
use Rattle.machine.specs.Verdict.{check_verdict}
use Rattle.codec.specs.Reader.{taken, read_answer}
use Rattle.codec.specs.Outcomes.{table_in}
use Rattle.chain.specs.declared.Walk.{Walk}
use Rattle.chain.specs.declared.End.{End}
use Rattle.chain.specs.declared.Said.{Said}
use Rattle.chain.specs.Walking.{most_files, begun, step}

abbrev pub file : List (List ℕ) → ℕ → List ℕ
file fs i = get_or fs i []

-- ---- a chain, without a walk
-- the file f is read and Carried: with the machines p, and n entries that are not blank
pub record CarriedFile (f : List ℕ) (p : Pair) (n : ℕ) : Type 0 where
  pub reads : read_answer f (replicate table_room 0) ≡ Ok (taken p true)
  pub carried : check_verdict p (table_in f) ≡ Ok (Carried n)

-- "each file is read and Carried, and each rig equals the score before it in every field, all under one hidden mask"; pair i has the machines of file i
pub record IsChain (fs : List (List ℕ)) (pair : ℕ → Pair) : Type 0 where
  pub carried : (i : ℕ) → i < length fs → (n : ℕ) × CarriedFile (file fs i) (pair i) n
  pub follows : (i : ℕ) → suc i < length fs → (pair (suc i)).concrete ≡ (pair i).abstraction
  pub hidden : (i : ℕ) → suc i < length fs → (pair (suc i)).hidden ≡ (pair i).hidden

-- ---- a walk along the files from w on
module _ (w : Walk) (fs : List (List ℕ)) where
  -- the walk after the first n files
  unfoldable pub walk_after : ℕ → Walk
  walk_after zero = w
  walk_after (suc n) = (step (walk_after n) (file fs n)).0

  -- what is said of file i
  unfoldable pub said_of : ℕ → Said
  said_of i = (step (walk_after i) (file fs i)).1

-- each file of a walk from the beginning gets Carried
abbrev pub EachCarried : List (List ℕ) → Type 0
EachCarried fs = (i : ℕ) → i < length fs → (n : ℕ) × (said_of begun fs i ≡ Said.Carried n)

-- ---- the statements
-- "If each file is read and Carried, .. every fair lasso of the first rig from a start state is matched by one of the last score from a start state."
abbrev pub ChainIsMatched : Type 0
ChainIsMatched = (fs : List (List ℕ)) (pair : ℕ → Pair) → 0 < length fs → IsChain fs pair
    → let first = pair 0 in let last = pair (length fs - 1) in
    (l : Lasso) → is_play first.concrete l ≡ true
    → (k : Lasso) × (is_play last.abstraction k ≡ true) × SameObservations last.hidden first.concrete l last.abstraction k

-- the walk has not ended after n files, and holds the score and the hidden mask of p
pub record Holds (w : Walk) (p : Pair) (n : ℕ) : Type 0 where
  pub last : w.last ≡ p.abstraction
  pub hidden : w.hidden ≡ p.hidden
  pub place : w.place ≡ n
  pub ended : w.ended ≡ None

-- each file of a walk gets Carried exactly if the files are a chain and at most sixteen; the walk then holds what the last file leaves
abbrev pub CarriedIsChain : Type 0
CarriedIsChain = (fs : List (List ℕ)) → 0 < length fs → EachCarried fs
    → (length fs ≤ most_files) × (pair : ℕ → Pair) × IsChain fs pair
    × Holds (walk_after begun fs (length fs)) (pair (length fs - 1)) (length fs)

abbrev pub ChainIsCarried : Type 0
ChainIsCarried = (fs : List (List ℕ)) (pair : ℕ → Pair) → length fs ≤ most_files → IsChain fs pair → EachCarried fs

-- so what is said of chains is said of walks, p and q being the machines of the first file and of the last
abbrev pub WalkIsMatched : Type 0
WalkIsMatched = (fs : List (List ℕ)) → 0 < length fs → EachCarried fs
    → (p q : Pair) (m n : ℕ) → CarriedFile (file fs 0) p m → CarriedFile (file fs (length fs - 1)) q n
    → (l : Lasso) → is_play p.concrete l ≡ true
    → (k : Lasso) × (is_play q.abstraction k ≡ true) × SameObservations q.hidden p.concrete l q.abstraction k

-- "later files get that same answer": once a walk has ended, from wherever it began, its answer never changes, whatever files follow
abbrev pub EndedStays : Type 0
EndedStays = (w : Walk) (fs : List (List ℕ)) (i : ℕ) (e : End) → said_of w fs i ≡ Said.Ended e → (j : ℕ) → i ≤ j → said_of w fs j ≡ Said.Ended e

-- "ends the walk with the file's number from 1": whenever a walk from the beginning says that it has ended, it has ended with the file of that number, and
-- each file before it was Carried; the number is at most 17
pub record EndedWith (fs : List (List ℕ)) (e : End) (j : ℕ) : Type 0 where
  pub number : e.file ≡ j + 1
  pub few : j ≤ most_files
  pub before : (i : ℕ) → i < j → (n : ℕ) × (said_of begun fs i ≡ Said.Carried n)
  pub here : said_of begun fs j ≡ Said.Ended e

abbrev pub EndIsTold : Type 0
EndIsTold = (fs : List (List ℕ)) (i : ℕ) (e : End) → said_of begun fs i ≡ Said.Ended e → (j : ℕ) × (j ≤ i) × EndedWith fs e j
