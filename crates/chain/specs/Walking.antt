-- Document 02, No. 9: a walk along a chain of files, "holding only the last score machine, hidden mask and the place in the walk, and once it has
-- ended its answer".
use Rattle.std.specs.Prelude.{Bool, cond, List, ℕ, ◌+◌, eqb, ltb, replicate, Err, Ok, None, Option, Some}
use Rattle.mask.specs.Logic.{and, or}
use Rattle.machine.specs.declared.Pair.{Pair}
use Rattle.machine.specs.declared.Refusal.TheVariants.{UnlikeLast, TooManyFiles}
use Rattle.machine.specs.declared.Verdict.{Verdict}
use Rattle.machine.specs.declared.Verdict.TheVariants.{Carried, NotCarried}
use Rattle.machine.specs.Machines.{same_machine}
use Rattle.machine.specs.Refusals.{Answer, valid, and_then, pass_on}
use Rattle.machine.specs.Table.{table_room}
use Rattle.machine.specs.Verdict.{check_verdict}
use Rattle.codec.specs.Reader.{Taken, taken, read_answer, zero_machine}
use Rattle.codec.specs.Outcomes.{table_in, outcome_after}
use Rattle.chain.specs.declared.Walk.{Walk}
use Rattle.chain.specs.declared.End.{End}
use Rattle.chain.specs.declared.Said.{Said}
use Rattle.chain.specs.declared.Reason.{Reason}

-- "up to sixteen files long"
abbrev pub most_files : ℕ
most_files = 16

-- a walk before its first file
unfoldable pub begun : Walk
begun = record { last = zero_machine; hidden = 0; place = 0; ended = None }

-- "each rig equals the score before it in every field, all under one hidden mask"; the first file has nothing before it
unfoldable pub follows : Walk → Pair → Bool
follows w p = or (eqb w.place 0) (and (same_machine p.concrete w.last) (eqb p.hidden w.hidden))

-- 25, "after 11 and before its table is missed or checked": of machines and a table T that were read
unfoldable pub judged_after : Walk → List ℕ → Taken → Answer (Pair × Option Verdict)
judged_after w T (taken p note) =
    and_then (cond (follows w p) valid (Err UnlikeLast)) (pass_on (outcome_after check_verdict T (taken p note)) (λ v. Ok (p, v)))

-- the machines of a file and what is said of them, or where the file was stopped
unfoldable pub judged : Walk → List ℕ → Answer (Pair × Option Verdict)
judged w f = pass_on (read_answer f (replicate table_room 0)) (judged_after w (table_in f))

-- "ends the walk with the file's number from 1": machine, mask and place stay as they were handed in
unfoldable pub ends : Walk → ℕ → Reason → Walk × Said
ends w file reason =
    let e : End = record { file = file; reason = reason } in
    (record { last = w.last; hidden = w.hidden; place = w.place; ended = Some e }, Said.Ended e)

-- "NotCarried, a missing table or a refusal ends the walk"
unfoldable pub after_judging : Walk → Answer (Pair × Option Verdict) → Walk × Said
after_judging w (Err r) = ends w (w.place + 1) (Reason.Refused r)
after_judging w (Ok (p, None)) = ends w (w.place + 1) Reason.NoTable
after_judging w (Ok (p, Some (NotCarried c n))) = ends w (w.place + 1) (Reason.NotCarried c n)
after_judging w (Ok (p, Some (Carried n))) =
    (record { last = p.abstraction; hidden = p.hidden; place = w.place + 1; ended = None }, Said.Carried n)

-- "later files get that same answer"; 26, "before all else, an unended walk's seventeenth file"
unfoldable pub step_by : Option End → Walk → List ℕ → Walk × Said
step_by (Some e) w f = (w, Said.Ended e)
step_by None w f = cond (ltb w.place most_files) (after_judging w (judged w f)) (ends w (most_files + 1) (Reason.Refused TooManyFiles))

-- the walk after the file f, and what is said of f
unfoldable pub step : Walk → List ℕ → Walk × Said
step w f = step_by w.ended w f
