-- Laws of what is said of a file: the state that NotCarried names.
use Rattle.std.specs.Prelude.{List, ◌≡◌, ℕ, ◌<◌, ltb, Ok, Some}
use Rattle.std.proofs.Common.{arith, ltb-true}
use Rattle.mask.specs.LogicLaws.{cond_cases}
use Rattle.machine.specs.declared.Pair.{Pair}
use Rattle.machine.specs.Machines.{n_c}
use Rattle.machine.specs.WellFormedLaws.{well_valid}
use Rattle.machine.specs.Verdict.{lacking_start, start_verdict, check_verdict}
use Rattle.machine.specs.VerdictLaws.{check_said, lines_said}
use Rattle.codec.specs.Outcomes.{table_in}
use Rattle.codec.specs.OutcomesLaws.{outcome_says}
use Rattle.verdict.specs.Outcomes.{file_outcome}
use Rattle.machine.specs.declared.Verdict.TheVariants.{NotCarried}

-- it is one of the machine's, so its number fits
check_low : (p : Pair) (T : List ℕ) (c n : ℕ) → check_verdict p T ≡ Ok (NotCarried c n) → c < 64
unfolding start_verdict
check_low p T c n e =
    let said = lines_said p T (NotCarried c n) (check_said p T (NotCarried c n) e) in
    let states = (well_valid p said.0).concrete.states_high in
    cond_cases (ltb (lacking_start p T) (n_c p)) (λ v. v ≡ NotCarried c n → c < 64) _ _
    (λ t q. let same : lacking_start p T ≡ c = cc in omega (arith, states, same, ltb-true (lacking_start p T) (n_c p) t))
    (λ t q. let z : ◌≡◌ {A = ℕ} 0 1 = cc in absurd (omega arith))
    said.2

pub file_low : (f : List ℕ) (c n : ℕ) → file_outcome f ≡ Ok (Some (NotCarried c n)) → c < 64
file_low f c n e = let said = outcome_says check_verdict f e in check_low said.0 (table_in f) c n said.2
