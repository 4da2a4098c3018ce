-- Laws of answers that are compared.
use Rattle.std.specs.Prelude.{◌≡◌, refl, Bool, cond, ◌==◌, ℕ, List, [], ◌∷◌, Ok, Err}
use Rattle.std.specs.Bool.{Decides}
use Rattle.std.specs.Cmp.{booleans_Decides}
use Rattle.std.proofs.Common.{sym, ap, ◌∙◌}
use Rattle.std.proofs.lemmas.Bool.Decides.{Decides-eqb}
use Rattle.std.proofs.lemmas.Slice.Eq.{bytes_eq-Decides}
use Rattle.mask.specs.Logic.{and}
use Rattle.mask.specs.LogicLaws.{and_i, and_l, and_r, clash}
use Rattle.machine.specs.declared.Pair.{Pair}
use Rattle.machine.specs.declared.Refusal.{Refusal}
use Rattle.machine.specs.declared.Refusal.TheVariants.{ShortBuffer, BadLength, BadFirstBlock, BadHeader, BadCounts, WrongLength, BadBlock, BadPadding, BeyondCounts, NoStart, NoSuccessor, FailingEntry, BadLassoLength, BadLassoStep, UnfairLasso, NoStartPartner, Misplaced, OutOfRange, EmptySet, UnlikeLast, TooManyFiles}
use Rattle.machine.specs.declared.Verdict.{Verdict}
use Rattle.machine.specs.declared.Verdict.TheVariants.{Carried, NotCarried}
use Rattle.machine.specs.declared.Checked.{Checked}
use Rattle.machine.specs.declared.Run.{Run}
use Rattle.machine.specs.Refusals.{Answer, four_numbers, pass_on}
use Rattle.machine.specs.RefusalsLaws.{answer_is, refused_is, refused_not_answer}
use Rattle.machine.specs.Verdict.{check_verdict, verdict_of, check_empty_set, empty_set_of, empty_set_told}
use Rattle.comparison.specs.Answers.{same_refusal, same_answer, same_unit, same_verdict, same_checked, same_run, check_answer}

-- ---- refusals: their four numbers tell them
told_by : ℕ → ℕ → ℕ → ℕ → Refusal
told_by n x y z =
    cond (n == 1) ShortBuffer (
    cond (n == 2) BadLength (
    cond (n == 3) BadFirstBlock (
    cond (n == 4) BadHeader (
    cond (n == 5) BadCounts (
    cond (n == 6) WrongLength (
    cond (n == 7) (BadBlock x) (
    cond (n == 8) BadPadding (
    cond (n == 9) (BeyondCounts x) (
    cond (n == 10) (NoStart x) (
    cond (n == 11) (NoSuccessor x y) (
    cond (n == 12) (FailingEntry x y z) (
    cond (n == 13) BadLassoLength (
    cond (n == 14) (BadLassoStep x) (
    cond (n == 15) (UnfairLasso x) (
    cond (n == 16) NoStartPartner (
    cond (n == 19) (Misplaced x y) (
    cond (n == 20) OutOfRange (
    cond (n == 21) (EmptySet x y) (
    cond (n == 25) UnlikeLast TooManyFiles)))))))))))))))))))

told_of : List ℕ → Refusal
told_of (n ∷ x ∷ y ∷ z ∷ []) = told_by n x y z
told_of ns = ShortBuffer

told_back : (r : Refusal) → told_of (four_numbers r) ≡ r
unfolding four_numbers told_of told_by
told_back ShortBuffer = refl
told_back BadLength = refl
told_back BadFirstBlock = refl
told_back BadHeader = refl
told_back BadCounts = refl
told_back WrongLength = refl
told_back (BadBlock block) = refl
told_back BadPadding = refl
told_back (BeyondCounts machine) = refl
told_back (NoStart machine) = refl
told_back (NoSuccessor machine state) = refl
told_back (FailingEntry section c a) = refl
told_back BadLassoLength = refl
told_back (BadLassoStep position) = refl
told_back (UnfairLasso set) = refl
told_back NoStartPartner = refl
told_back (Misplaced block found) = refl
told_back OutOfRange = refl
told_back (EmptySet machine set) = refl
told_back UnlikeLast = refl
told_back TooManyFiles = refl

pub refusals_same : (r s : Refusal) → Decides (same_refusal r s) (r ≡ s)
unfolding same_refusal
refusals_same r s =
    let d = bytes_eq-Decides (four_numbers r) (four_numbers s) in
    (λ t. sym (told_back r) ∙ ap told_of (d.0 t) ∙ told_back s, λ e. d.1 (ap four_numbers e))

-- ---- what is answered
pub both_same : {A B C : Type 0} (a b : Bool) {x y : A} {u v : B} {s t : C} → Decides a (x ≡ y) → Decides b (u ≡ v) → (x ≡ y → u ≡ v → s ≡ t) → (s ≡ t → (x ≡ y) × (u ≡ v)) → Decides (and a b) (s ≡ t)
both_same a b d e f g = (λ h. f (d.0 (and_l a b h)) (e.0 (and_r a b h)), λ h. and_i (d.1 (g h).0) (e.1 (g h).1))

pub units_same : (t u : Unit {0}) → Decides (same_unit t u) (t ≡ u)
unfolding same_unit
units_same t u = (λ h. refl, λ e. refl)

pub verdicts_same : (x y : Verdict) → Decides (same_verdict x y) (x ≡ y)
unfolding same_verdict
verdicts_same (Carried n) (Carried m) = let d = Decides-eqb n m in (λ h. ap Carried (d.0 h), λ e. d.1 cc)
verdicts_same (Carried n) (NotCarried d m) = (λ h. absurd (clash refl h), λ e. absurd cc)
verdicts_same (NotCarried c n) (Carried m) = (λ h. absurd (clash refl h), λ e. absurd cc)
verdicts_same (NotCarried c n) (NotCarried d m) = both_same _ _ (Decides-eqb c d) (Decides-eqb n m) (λ e f. rw (e, f)) (λ e. (cc, cc))

pub checked_same : (x y : Checked) → Decides (same_checked x y) (x ≡ y)
unfolding same_checked
checked_same x y = both_same _ _ (verdicts_same x.verdict y.verdict) (booleans_Decides x.empty_set y.empty_set) (λ e f. rw (e, f)) (λ e. (ap (λ z. z.verdict) e, ap (λ z. z.empty_set) e))

pub runs_same : (x y : Run) → Decides (same_run x y) (x ≡ y)
unfolding same_run
runs_same x y = both_same _ _ (Decides-eqb x.stem y.stem) (Decides-eqb x.cycle y.cycle) (λ e f. rw (e, f)) (λ e. (ap (λ z. z.stem) e, ap (λ z. z.cycle) e))

-- ---- answers
pub answers_same : {A : Type 0} {f : A → A → Bool} → ((a b : A) → Decides (f a b) (a ≡ b)) → (x y : Answer A) → Decides (same_answer f x y) (x ≡ y)
unfolding same_answer
answers_same d (Ok a) (Ok b) = (λ h. ap Ok ((d a b).0 h), λ e. (d a b).1 (answer_is e))
answers_same d (Ok a) (Err s) = (λ h. absurd (clash refl h), λ e. absurd (refused_not_answer (sym e)))
answers_same d (Err r) (Ok b) = (λ h. absurd (clash refl h), λ e. absurd (refused_not_answer e))
answers_same d (Err r) (Err s) = (λ h. ap Err ((refusals_same r s).0 h), λ e. (refusals_same r s).1 (refused_is e))

-- ---- the check's answer, by its parts
pub check_parts : (p : Pair) (T : List ℕ) (x : Answer Checked) → verdict_of x ≡ check_verdict p T → empty_set_of x ≡ check_empty_set p T → x ≡ check_answer p T
unfolding check_answer pass_on verdict_of empty_set_of empty_set_told
check_parts p T (Ok c) v e = rw (← v, ← (rw (← v) at e))
check_parts p T (Err r) v e = rw (← v)
