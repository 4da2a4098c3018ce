-- Laws of the check's answer: which test tells it, and what an answer tells of the tests.
use Rattle.std.specs.Prelude.{Bool, true, false, List, ℕ, ◌≤◌, ◌<◌, ltb, length, Err, Ok}
use Rattle.std.proofs.Math.Logic.{⊎_elim}
use Rattle.std.proofs.Math.Path.{◌≡◌}
use Rattle.std.proofs.Common.{◌∙◌, arith}
use borrow.Author.Tests.{lt-ltb, le-ltb, ltb-false}
use Rattle.mask.specs.Logic.{and, not}
use Rattle.mask.specs.LogicLaws.{dec, clash, cond_cases, and_i, and_false_l, and_false_r, not_i, not_f}
use Rattle.mask.specs.BoundedLaws.{first_is, first_none, first_before}
use Rattle.machine.specs.declared.Pair.{Pair}
use Rattle.machine.specs.declared.Refusal.{Refusal}
use Rattle.machine.specs.Refusals.{valid}
use Rattle.machine.specs.RefusalsLaws.{then_of, then_refused, then_answer, answer_is, buffer_valid, buffer_short}
use Rattle.machine.specs.Machines.{starts, n_c}
use Rattle.machine.specs.WellFormed.{has_empty_set, pair_validity}
use Rattle.machine.specs.Table.{table_room, covered_count}
use Rattle.machine.specs.Lines.{passes_each, lines_validity}
use Rattle.machine.specs.LinesLaws.{valid_passes}
use Rattle.machine.specs.Verdict.{HasStarts, start_covered, lacking_start, start_verdict, lines_verdict, check_verdict, empty_set_told, check_empty_set}
use Rattle.machine.specs.declared.Refusal.TheVariants.{ShortBuffer}
use Rattle.machine.specs.declared.Verdict.{Verdict}
use Rattle.machine.specs.declared.Verdict.TheVariants.{Carried, NotCarried}

module _ (p : Pair) (T : List ℕ) where
  -- ---- which test tells the answer
  pub check_short : length T < table_room → check_verdict p T ≡ Err ShortBuffer
  unfolding check_verdict
  check_short h = then_refused _ _ _ (buffer_short table_room (length T) h)

  -- of a table with room
  module _ (room : table_room ≤ length T) where
    pub check_lines : check_verdict p T ≡ lines_verdict p T
    unfolding check_verdict
    check_lines = then_of _ _ (buffer_valid table_room (length T) room)

    pub check_invalid : (r : Refusal) → pair_validity p ≡ Err r → check_verdict p T ≡ Err r
    unfolding lines_verdict
    check_invalid r e = check_lines ∙ then_refused _ _ r e

    pub check_fails : (r : Refusal) → pair_validity p ≡ valid → lines_validity p T ≡ Err r → check_verdict p T ≡ Err r
    unfolding lines_verdict
    check_fails r e f = check_lines ∙ then_of _ _ e ∙ then_refused _ _ r f

    pub check_passes : pair_validity p ≡ valid → lines_validity p T ≡ valid → check_verdict p T ≡ Ok (start_verdict p T)
    unfolding lines_verdict
    check_passes e f = check_lines ∙ then_of _ _ e ∙ then_of _ _ f

  -- ---- whether a concrete set is empty, beside the answer
  pub empty_told_refused : {r : Refusal} → check_verdict p T ≡ Err r → check_empty_set p T ≡ false
  unfolding empty_set_told
  empty_told_refused e = rw e

  pub empty_told_beside : {v : Verdict} → check_verdict p T ≡ Ok v → check_empty_set p T ≡ has_empty_set p.concrete
  unfolding empty_set_told
  empty_told_beside e = rw e

  -- ---- what an answer tells of the tests
  pub lines_said : (v : Verdict) → lines_verdict p T ≡ Ok v → (pair_validity p ≡ valid) × (lines_validity p T ≡ valid) × (start_verdict p T ≡ v)
  unfolding lines_verdict
  lines_said v e =
      let a = then_answer (pair_validity p) _ e in
      let b = then_answer (lines_validity p T) _ a.1 in
      (a.0, b.0, answer_is b.1)

  pub check_said : (v : Verdict) → check_verdict p T ≡ Ok v → lines_verdict p T ≡ Ok v
  unfolding check_verdict
  check_said v e = (then_answer _ _ e).1

  -- ---- the lowest start state without a partner
  -- c is one
  unfoldable pub lacks : ℕ → Bool
  lacks c = and (starts p.concrete c) (not (start_covered p T c))

  pub lacks_not : (c : ℕ) → starts p.concrete c ≡ false → lacks c ≡ false
  unfolding lacks
  lacks_not c t = and_false_l _ t

  pub lacks_covered : (c : ℕ) → start_covered p T c ≡ true → lacks c ≡ false
  unfolding lacks
  lacks_covered c t = and_false_r _ (not_f t)

  pub lacks_is : (c : ℕ) → starts p.concrete c ≡ true → start_covered p T c ≡ false → lacks c ≡ true
  unfolding lacks
  lacks_is c t u = and_i t (not_i u)

  pub lacking_is : (c : ℕ) → c < n_c p → lacks c ≡ true → ((k : ℕ) → k < c → lacks k ≡ false) → lacking_start p T ≡ c
  unfolding lacking_start lacks
  lacking_is c h t b = first_is (n_c p) _ c h t b

  pub lacking_none : ((k : ℕ) → k < n_c p → lacks k ≡ false) → lacking_start p T ≡ n_c p
  unfolding lacking_start lacks
  lacking_none b = first_none (n_c p) _ b

  -- it and the count tell the answer
  module _ (n c : ℕ) (counted : n ≡ covered_count p T) (lowest : c ≡ lacking_start p T) where
    pub start_lacking : c < n_c p → start_verdict p T ≡ NotCarried c n
    unfolding start_verdict
    start_lacking h = rw (← lowest, ← counted, lt-ltb c (n_c p) h)

    pub start_carried : n_c p ≤ c → start_verdict p T ≡ Carried n
    unfolding start_verdict
    start_carried h = rw (← lowest, ← counted, le-ltb c (n_c p) h)

  -- below the lowest state that lacks one, each start state has a partner
  pub before_lacking : (c : ℕ) → c < lacking_start p T → starts p.concrete c ≡ true → start_covered p T c ≡ true
  unfolding lacking_start
  before_lacking c h s = ⊎_elim (λ t. t) (λ t. absurd (clash (first_before (n_c p) _ c h) (and_i s (not_i t)))) (dec (start_covered p T c))

  -- Carried is said only where nothing is refused and each start state has a partner
  pub record IsCarried : Type 0 where
    pub well : pair_validity p ≡ valid
    pub passing : passes_each p T ≡ true
    pub start : HasStarts p T

  carried_starts : (n : ℕ) → start_verdict p T ≡ Carried n → HasStarts p T
  unfolding start_verdict
  carried_starts n = cond_cases (ltb (lacking_start p T) (n_c p))
      (λ v. v ≡ Carried n → HasStarts p T) _ _
      (λ u e. let z : ◌≡◌ {A = ℕ} 0 1 = cc in absurd (omega arith))
      (λ u e c h. before_lacking c (omega (arith, ltb-false (lacking_start p T) (n_c p) u)))

  pub carried_at : (n : ℕ) → lines_verdict p T ≡ Ok (Carried n) → IsCarried
  carried_at n e = let a = lines_said (Carried n) e in record { well = a.0; passing = valid_passes p T a.1; start = carried_starts n a.2 }
