-- What a `?` passes on: the refusal of the call before it.
use Rattle.std.specs.Prelude.{◌≡◌, Err}
use Rattle.std.specs.Result.{IsErr, IsErrAnd}
use Rattle.std.proofs.Common.{◌∙◌, ap}
use Rattle.std.proofs.lemmas.Result.{err_from_is_err_and}
use Rattle.machine.specs.declared.Refusal.{Refusal}
use Rattle.machine.specs.Refusals.{Answer}

pub passed_on : {A : Type 0} {v : Answer A} {r : Refusal} → IsErr v × IsErrAnd v (λ s. s ≡ r) → v ≡ Err r
passed_on {v = v} h = let p = err_from_is_err_and v h.1 in p.1 ∙ ap Err p.2
