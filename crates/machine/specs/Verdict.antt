-- Document 01, "Line check": the answer, as document 01 tells it; and beside it what document 02, No. 7, adds.
use Rattle.std.specs.Prelude.{Bool, true, false, cond, List, ◌≡◌, ℕ, ◌+◌, ◌<◌, length, ltb, Err, Ok}
use Rattle.mask.specs.Logic.{not, and}
use Rattle.mask.specs.Bounded.{first, some_in}
use Rattle.machine.specs.declared.Pair.{Pair}
use Rattle.machine.specs.declared.Checked.{Checked}
use Rattle.machine.specs.declared.Verdict.{Verdict}
use Rattle.machine.specs.declared.Verdict.TheVariants.{Carried, NotCarried}
use Rattle.machine.specs.Refusals.{and_then, buffer_validity, Answer}
use Rattle.machine.specs.Machines.{starts, n_c, n_a}
use Rattle.machine.specs.WellFormed.{has_empty_set, pair_validity}
use Rattle.machine.specs.Table.{table_room, covers, covered_count}
use Rattle.machine.specs.Lines.{lines_validity}

-- "101 no table", of a file
abbrev pub no_table : ℕ
no_table = 101

-- "100 Carried, .. 200 + c NotCarried"
unfoldable pub verdict_number : Verdict → ℕ
verdict_number (Carried count) = 100
verdict_number (NotCarried c count) = 200 + c

-- the concrete start state c has an abstract start state a, with (c, a) non-blank in section 1
unfoldable pub start_covered : Pair → List ℕ → ℕ → Bool
start_covered p T c = some_in (n_a p) p.abstraction.start (covers p T 0 c)

-- each concrete start state has one
abbrev pub HasStarts : Pair → List ℕ → Type 0
HasStarts p T = (c : ℕ) → c < n_c p → starts p.concrete c ≡ true → start_covered p T c ≡ true

-- "the lowest c that lacks one", nC where none does
unfoldable pub lacking_start : Pair → List ℕ → ℕ
lacking_start p T = first (n_c p) (λ c. and (starts p.concrete c) (not (start_covered p T c)))

-- "Carried if each rig start state c has a score start state a, with (c, a) non-blank in section 1; else NotCarried with the lowest c
-- that lacks one. Both give the number of non-blank entries, all sections counted."
unfoldable pub start_verdict : Pair → List ℕ → Verdict
start_verdict p T = cond (ltb (lacking_start p T) (n_c p)) (NotCarried (lacking_start p T) (covered_count p T)) (Carried (covered_count p T))

-- 5, 9 to 12, and the answer
unfoldable pub lines_verdict : Pair → List ℕ → Answer Verdict
lines_verdict p T = and_then (pair_validity p) (and_then (lines_validity p T) (Ok (start_verdict p T)))

-- the check's whole answer, of a lent table: 1 before all else
unfoldable pub check_verdict : Pair → List ℕ → Answer Verdict
check_verdict p T = and_then (buffer_validity table_room (length T)) (lines_verdict p T)

-- the parts of what the check says
unfoldable pub verdict_of : Answer Checked → Answer Verdict
verdict_of (Ok c) = Ok c.verdict
verdict_of (Err r) = Err r

unfoldable pub empty_set_of : Answer Checked → Bool
empty_set_of (Ok c) = c.empty_set
empty_set_of (Err r) = false

-- Document 02, No. 7: "the check's answer .. tells whether a rig set is empty", beside Carried and beside NotCarried; beside a refusal it is false
unfoldable pub empty_set_told : Pair → Answer Verdict → Bool
empty_set_told p (Ok v) = has_empty_set p.concrete
empty_set_told p (Err r) = false

abbrev pub check_empty_set : Pair → List ℕ → Bool
check_empty_set p T = empty_set_told p (check_verdict p T)
