-- The reader's refusal, or what the first family of the machines is.
use mathlib.Core.Path.{◌≡◌, sym, ap, ◌∙◌}
use Rattle.std.specs.Prelude.{List, ℕ, replicate}
use Rattle.std.specs.Result.{result_unwrap_or}
use Rattle.machine.specs.Refusals.{Answer}
use Rattle.machine.proofs.Passing.{passed_on}
use Rattle.watch.specs.Watching.{first_file_answer, first_file_given}
use Rattle.watch.specs.WatchingLaws.{machines_at, machines_stopped, first_unread, first_read, given_or_zeros}
use Rattle.watch.proofs.first_family_bytes.Goals as goal

given : (f : List ℕ) (v : Answer (List ℕ)) → v ≡ first_file_answer f → result_unwrap_or v (replicate 448 0) ≡ first_file_given f
given f v e = ap (λ (v : Answer (List ℕ)). result_unwrap_or v (replicate 448 0)) e ∙ given_or_zeros f

pub returns-in_err-pair : goal.returns-in_err-pair
returns-in_err-pair c =
    let said = passed_on c.from_residual.ensures ∙ sym (first_unread _ (machines_stopped _ (sym c.machines_of.ensures ∙ c.in_err-pair.was))) in
    record { answer = said; family = given c.args.bytes.now _ said }

pub returns : goal.returns
returns c =
    let read = machines_at _ (sym c.machines_of.ensures ∙ c.in_ok-pair.was) in
    let said = c.first_family.ensures.answer ∙ first_read _ read.0 read.1 in
    record { answer = said; family = given c.args.bytes.now _ said }
