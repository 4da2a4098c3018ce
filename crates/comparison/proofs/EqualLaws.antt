-- What the code's `==` says of two answers: its derived tests are those of the definitions, since each decides that the two are one.
use Rattle.std.specs.Prelude.{◌≡◌, Bool, ℕ, List, length, eqb}
use lib.Pointwise.{pointwise}
use Rattle.std.specs.Bool.{Decides, one_answer}
use Rattle.std.specs.Cmp.{booleans_Decides}
use Rattle.std.specs.Result.{result_eq}
use Rattle.std.proofs.Common.{◌∙◌, rules}
use Rattle.std.proofs.Math.Bool.{beq}
use Rattle.std.specs.contracts.prelude.UnitPartialEq.TheImpl as unit
use Rattle.machine.specs.contracts.RefusalPartialEq.TheImpl as refusal
use Rattle.machine.specs.contracts.CheckedPartialEq.TheImpl as checked
use Rattle.machine.specs.contracts.RunPartialEq.TheImpl as run
use Rattle.machine.specs.declared.Checked.{Checked}
use Rattle.machine.specs.declared.Run.{Run}
use Rattle.machine.specs.Refusals.{Answer, Tested}
use Rattle.mask.proofs.RangeLaws.{pointwise_every}
use Rattle.comparison.specs.Turns.{same_rows}
use Rattle.comparison.specs.Answers.{same_answer, same_unit, same_checked, same_run}
use Rattle.comparison.specs.AnswersLaws.{answers_same, units_same, checked_same, runs_same}

answers_eq : {A : Type 0} {E : A → A → Bool} → ((a b : A) → Decides (E a b) (a ≡ b)) → (x y : Answer A) → Decides (result_eq E (refusal.eq-value).it x y) (x ≡ y)
answers_eq d x y = search (rules, d)

told_by : {A : Type 0} {E f : A → A → Bool} → ((a b : A) → Decides (E a b) (a ≡ b)) → ((a b : A) → Decides (f a b) (a ≡ b)) → (x y : Answer A) {r : Bool}
    → r ≡ result_eq E (refusal.eq-value).it x y → r ≡ same_answer f x y
told_by d e x y h = h ∙ one_answer _ _ (answers_eq d x y) (answers_same e x y)

pub units_told : (x y : Tested) {r : Bool} → r ≡ result_eq (unit.eq-value).it (refusal.eq-value).it x y → r ≡ same_answer same_unit x y
units_told x y h = told_by (search rules) units_same x y h

pub bools_told : (x y : Answer Bool) {r : Bool} → r ≡ result_eq beq (refusal.eq-value).it x y → r ≡ same_answer beq x y
bools_told x y h = told_by booleans_Decides booleans_Decides x y h

pub runs_told : (x y : Answer Run) {r : Bool} → r ≡ result_eq (run.eq-value).it (refusal.eq-value).it x y → r ≡ same_answer same_run x y
runs_told x y h = told_by (search rules) runs_same x y h

pub checked_told : (x y : Answer Checked) {r : Bool} → r ≡ result_eq (checked.eq-value).it (refusal.eq-value).it x y → r ≡ same_answer same_checked x y
checked_told x y h = told_by (search rules) checked_same x y h

-- and of two families
pub rows_told : (F N : List ℕ) → length F ≡ 448 → length N ≡ 448 → pointwise eqb F N ≡ same_rows F N
unfolding same_rows
rows_told F N a b = pointwise_every F N a b
