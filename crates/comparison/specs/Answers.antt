-- When two answers are the same, as tests: refusals by their four numbers, other answers by what is answered. AnswersLaws has that each is true exactly
-- where the two are one.
use Rattle.std.specs.Prelude.{Bool, true, false, ◌==◌, List, ℕ, bytes_eq, Ok, Err}
use Rattle.std.specs.Result.{result_unwrap_or}
use Rattle.std.proofs.Math.Bool.{beq}
use Rattle.mask.specs.Logic.{and}
use Rattle.machine.specs.declared.Pair.{Pair}
use Rattle.machine.specs.declared.Refusal.{Refusal}
use Rattle.machine.specs.declared.Verdict.{Verdict}
use Rattle.machine.specs.declared.Verdict.TheVariants.{Carried, NotCarried}
use Rattle.machine.specs.declared.Checked.{Checked}
use Rattle.machine.specs.declared.Run.{Run}
use Rattle.machine.specs.Refusals.{Answer, four_numbers, pass_on}
use Rattle.machine.specs.WellFormed.{has_empty_set}
use Rattle.machine.specs.Verdict.{check_verdict}

unfoldable pub same_refusal : Refusal → Refusal → Bool
same_refusal r s = bytes_eq (four_numbers r) (four_numbers s)

-- where f compares what is answered
unfoldable pub same_answer : {A : Type 0} → (A → A → Bool) → Answer A → Answer A → Bool
same_answer f (Ok a) (Ok b) = f a b
same_answer f (Ok a) (Err s) = false
same_answer f (Err r) (Ok b) = false
same_answer f (Err r) (Err s) = same_refusal r s

-- of a test that refuses nothing
unfoldable pub same_unit : Unit {0} → Unit {0} → Bool
same_unit t u = true

unfoldable pub same_verdict : Verdict → Verdict → Bool
same_verdict (Carried n) (Carried m) = n == m
same_verdict (Carried n) (NotCarried d m) = false
same_verdict (NotCarried c n) (Carried m) = false
same_verdict (NotCarried c n) (NotCarried d m) = and (c == d) (n == m)

unfoldable pub same_checked : Checked → Checked → Bool
same_checked x y = and (same_verdict x.verdict y.verdict) (beq x.empty_set y.empty_set)

unfoldable pub same_run : Run → Run → Bool
same_run x y = and (x.stem == y.stem) (x.cycle == y.cycle)

-- the check's whole answer of a lent table
unfoldable pub check_answer : Pair → List ℕ → Answer Checked
check_answer p T = pass_on (check_verdict p T) (λ v. Ok (record { verdict = v; empty_set = has_empty_set p.concrete }))

-- yes: a turn is finished, a pair is still in
abbrev pub says_yes : Answer Bool → Bool
says_yes x = result_unwrap_or x false
