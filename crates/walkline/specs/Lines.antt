-- The lines of a walk (a walk: document 02, No. 9), as "1 carried 2", "2 not carried 0 5", "2 no table" and "2 refused 25 0 0 0", and how to call the
-- program.
use Rattle.std.specs.Prelude.{List, [], ◌∷◌, ◌++◌, ℕ, Err, None, Ok, Option, Some}
use Rattle.text.specs.Decimal.{decimal}
use Rattle.machine.specs.Refusals.{Answer}
use Rattle.machine.specs.declared.Verdict.{Verdict}
use Rattle.report.specs.Text.{blank_space, outcome_line}
use Rattle.chain.specs.declared.Reason.{Reason}
use Rattle.chain.specs.declared.Said.{Said}

-- the reason of an end, as what is said of one file
unfoldable pub reason_outcome : Reason → Answer (Option Verdict)
reason_outcome (Reason.NotCarried c n) = Ok (Some (Verdict.NotCarried c n))
reason_outcome Reason.NoTable = Ok None
reason_outcome (Reason.Refused r) = Err r

-- a file's number, and what is said of it, in the words of `shelf`
unfoldable pub numbered_line : ℕ → Answer (Option Verdict) → List ℕ
numbered_line file said = decimal file ++ (blank_space ++ outcome_line said)

-- of a walk that is at this place after the file: a file that was Carried has this number, and the line of an end that of the file that ended the walk
unfoldable pub walk_line : ℕ → Said → List ℕ
walk_line place (Said.Carried n) = numbered_line place (Ok (Some (Verdict.Carried n)))
walk_line place (Said.Ended e) = numbered_line e.file (reason_outcome e.reason)

-- "usage: walk first.dom second.dom .." and a line feed
abbrev pub usage_text : List ℕ
usage_text =
    117 ∷ 115 ∷ 97 ∷ 103 ∷ 101 ∷ 58 ∷ 32 ∷ 119 ∷ 97 ∷ 108 ∷ 107 ∷ 32 ∷ 102 ∷ 105 ∷ 114 ∷ 115 ∷ 116 ∷ 46 ∷ 100 ∷ 111 ∷ 109 ∷ 32 ∷ 115 ∷ 101 ∷ 99 ∷ 111 ∷ 110 ∷ 100 ∷ 46 ∷ 100 ∷ 111 ∷ 109 ∷ 32 ∷ 46 ∷ 46 ∷ 10 ∷ []
