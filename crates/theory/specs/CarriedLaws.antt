-- What the check's answer says of the start states.
use Rattle.std.specs.Prelude.{true, List, ℕ, ◌<◌, ltb, Ok}
use Rattle.std.proofs.Math.Logic.{⊎_elim}
use Rattle.std.proofs.Math.Path.{◌≡◌, ap}
use Rattle.std.proofs.Common.{◌∙◌, arith}
use borrow.Author.Tests.{ltb-true, le-ltb}
use Rattle.mask.specs.LogicLaws.{dec, cond_cases, and_l, and_r, and_false_l, and_false_r, not_e, not_f}
use Rattle.mask.specs.BoundedLaws.{first_none, first_has, some_in_at, some_in_of}
use Rattle.machine.specs.declared.Pair.{Pair}
use Rattle.machine.specs.Refusals.{valid}
use Rattle.machine.specs.Machines.{starts, n_c, n_a}
use Rattle.machine.specs.WellFormed.{pair_validity}
use Rattle.machine.specs.Table.{covers, covered_count}
use Rattle.machine.specs.Lines.{passes_each}
use Rattle.machine.specs.LinesLaws.{lines_valid}
use Rattle.machine.specs.Verdict.{HasStarts, start_covered, lacking_start, start_verdict, lines_verdict}
use Rattle.machine.specs.VerdictLaws.{before_lacking, carried_at, lines_said}
use Rattle.machine.specs.RefusalsLaws.{then_of}
use Rattle.theory.specs.Statements.{IsLowest}
use Rattle.machine.specs.declared.Verdict.TheVariants.{Carried, NotCarried}

module _ (p : Pair) (T : List ℕ) where
  lowest : lacking_start p T < n_c p → IsLowest p T (lacking_start p T)
  unfolding lacking_start
  lowest h =
      let t = first_has (n_c p) _ h in
      record { state = h; is_start = and_l _ _ t; lacks = not_e _ (and_r _ _ t); lower = λ d l. before_lacking p T d l }

  -- Carried is said where each start state has a partner
  pub starts_carried : HasStarts p T → start_verdict p T ≡ Carried (covered_count p T)
  unfolding start_verdict lacking_start
  starts_carried h =
      let e : lacking_start p T ≡ n_c p = first_none (n_c p) _ (λ c hc. ⊎_elim (λ s. and_false_r _ (not_f (h c hc s))) (λ s. and_false_l _ s) (dec (starts p.concrete c))) in
      rw (e, le-ltb (n_c p) (n_c p) (omega arith))

  pub lowest_said : (c n : ℕ) → start_verdict p T ≡ NotCarried c n → IsLowest p T c
  unfolding start_verdict
  lowest_said c n = cond_cases (ltb (lacking_start p T) (n_c p)) (λ v. v ≡ NotCarried c n → IsLowest p T c) _ _
      (λ u e. let l : lacking_start p T ≡ c = cc in rw l at (lowest (ltb-true _ _ u)))
      (λ u e. let z : ◌≡◌ {A = ℕ} 0 1 = cc in absurd (omega arith))

-- the same of the whole answer
module _ (p : Pair) (T : List ℕ) where
  pub said_lowest : (c n : ℕ) → lines_verdict p T ≡ Ok (NotCarried c n) → IsLowest p T c
  said_lowest c n e = lowest_said p T c n (lines_said p T (NotCarried c n) e).2

  pub said_starts : (n : ℕ) → lines_verdict p T ≡ Ok (Carried n) → HasStarts p T
  said_starts n e = (carried_at p T n e).start

  pub starts_said : pair_validity p ≡ valid → passes_each p T ≡ true → HasStarts p T → lines_verdict p T ≡ Ok (Carried (covered_count p T))
  unfolding lines_verdict
  starts_said v t h = then_of _ _ v ∙ then_of _ _ (lines_valid p T t) ∙ ap Ok (starts_carried p T h)

-- a table that covers, in section 1, what another covers, has the start pairs that the other has
pub starts_kept : (p : Pair) (T U : List ℕ) → ((c a : ℕ) → c < n_c p → a < n_a p → covers p T 0 c a ≡ true → covers p U 0 c a ≡ true)
    → HasStarts p T → HasStarts p U
unfolding start_covered
starts_kept p T U k h c hc s =
    let q = some_in_at (n_a p) p.abstraction.start (covers p T 0 c) (h c hc s) in
    some_in_of (n_a p) p.abstraction.start (covers p U 0 c) q.0 q.1 q.2 (k c q.0 hc q.1 q.3)
