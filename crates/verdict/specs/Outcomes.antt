-- Document 01, "Console and program": what is said of a file's bytes, and its number.
use Rattle.std.specs.Prelude.{List, ℕ, Err, None, Ok, Option, Some}
use Rattle.machine.specs.Refusals.{Answer, number_of}
use Rattle.machine.specs.Verdict.{no_table, verdict_number, check_verdict}
use Rattle.codec.specs.Outcomes.{outcome_by}
use Rattle.machine.specs.declared.Verdict.{Verdict}

-- the reader's refusals, what the check says of the table, or that there is none
abbrev pub file_outcome : List ℕ → Answer (Option Verdict)
file_outcome f = outcome_by check_verdict f

-- "a refusal's, 100 Carried, 101 no table, 200 + c NotCarried"
unfoldable pub outcome_number : Answer (Option Verdict) → ℕ
outcome_number (Ok (Some v)) = verdict_number v
outcome_number (Ok None) = no_table
outcome_number (Err r) = number_of r
