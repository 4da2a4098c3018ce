-- A refusal is passed on, and else there are the matched pairs.
use Rattle.std.proofs.Common.{◌≡◌, ℕ, List, sym, ap, ◌∙◌}
use Rattle.std.specs.Prelude.{Ok, replicate}
use Rattle.std.specs.Result.{result_unwrap_or}
use Rattle.machine.specs.Refusals.{Answer}
use Rattle.machine.specs.WellFormedLaws.{valid_is_well}
use Rattle.machine.specs.EmptySetsLaws.{nonempty_at}
use Rattle.machine.specs.declared.Pair.{Pair}
use Rattle.machine.proofs.Passing.{passed_on}
use Rattle.progress.specs.Turns.{first_answer, first_given}
use Rattle.progress.specs.TurnsLaws.{first_of, first_refused, given_or_zeros}
use Rattle.progress.proofs.first_family.Goals as goal

begun : (p : Pair) (v : Answer (List ℕ)) → v ≡ first_answer p → result_unwrap_or v (replicate 448 0) ≡ first_given p
begun p v e = ap (λ (v : Answer (List ℕ)). result_unwrap_or v (replicate 448 0)) e ∙ given_or_zeros p

pub returns-in_err-pair_validity : goal.returns-in_err-pair_validity
returns-in_err-pair_validity c =
    let p = c.args.p in
    let said = passed_on c.from_residual.ensures ∙ sym (first_refused p (sym c.pair_validity.ensures ∙ c.in_err-pair_validity.was)) in
    record { answer = said; family = begun p _ said }

pub invariant_of-formed : goal.invariant_of-formed
invariant_of-formed c =
    let p = c.args.p in
    record { well = valid_is_well p (nonempty_at p (sym c.pair_validity.ensures ∙ c.in_ok-pair_validity.was)).0 }

pub returns : goal.returns
returns c =
    let p = c.args.p in
    let said = ap Ok c.first_rows.ensures ∙ sym (first_of p (sym c.pair_validity.ensures ∙ c.in_ok-pair_validity.was)) in
    record { answer = said; family = begun p _ said }
