-- The parts that the code puts are the text: lines of states by masks, and the whole.
use mathlib.Core.List.{List, [], ◌++◌, map, flat_map, flatten, append-nil}
use Rattle.std.proofs.Math.Logic.{by_cases}
use Rattle.std.specs.Prelude.{◌≡◌, get_or}
use Rattle.std.proofs.Math.Path.{refl, sym, ap, ap₂}
use Rattle.std.proofs.Common.{◌∙◌, lt_of_lt_of_le, arith}
use Prim.Native.Nat.{ℕ, zero, suc, ◌^◌, ◌≤◌, ◌<◌}
use Rattle.std.proofs.Math.Decide.{dec_lt}
use Rattle.std.proofs.Math.Nat.{pow-le-pow_right}
use Rattle.mask.specs.TablesLaws.{mask_of_lt}
use Rattle.text.specs.Decimal.{decimal}
use Rattle.machine.specs.declared.Machine.{Machine}
use Rattle.machine.specs.Machines.{observation, successors, fair_set, in_fair_set}
use Rattle.hanoi.specs.Words.{ascii, numbers, states_of, spread, joined}
use Rattle.hanoi.specs.WordsLaws.{states_none, states_next, states_mask}
use Rattle.hanoi.specs.Text.{label, sets_with, in_braces, state_lines, hoa_text}
use Rattle.hanoi.specs.Parts.{items, braces, state_text, sets_mask, lines_at, lines_below, head_text, text_parts}
use Rattle.hanoi.specs.PartsLaws.{braces_none, braces_some}
use Rattle.hanoi.proofs.LinesLaws.{braces_next, braces_end, state_lines_lem, text_lines}

-- ---- the sets of a state
sets_are : (m : Machine) (s : ℕ) → m.sets ≤ 64 → sets_with m s ≡ states_of (sets_mask m.sets m.fairness s)
unfolding sets_with sets_mask in_fair_set fair_set
sets_are m s h = sym (states_mask m.sets _ h)

members_small : (k : ℕ) (fairness : List ℕ) (s : ℕ) → k ≤ 64 → sets_mask k fairness s < 2 ^ 64
unfolding sets_mask
members_small k fairness s h = lt_of_lt_of_le (mask_of_lt k _) (pow-le-pow_right (omega arith) h)

braces_are : (m : ℕ) → m < 2 ^ 64 → spread (ascii " ") (in_braces (states_of m)) ≡ braces m
unfolding flatten items
braces_are m small =
    sym (append-nil _) ∙ by_cases (dec_lt 0 m)
    (λ h.
    let some : m ≡ 0 → ⊥ = λ e. omega arith in
    let next = states_next m some small in
    ap (λ (l : List ℕ). spread (ascii " ") (in_braces l) ++ []) next
    ∙ braces_next _ _ []
    ∙ ap (λ (l : List ℕ). ascii " {" ++ (joined (ascii " ") (map decimal l) ++ (ascii "}" ++ []))) (sym next)
    ∙ sym (braces_some m some))
    (λ h.
    let none : m ≡ 0 = omega arith in
    ap (λ (l : List ℕ). spread (ascii " ") (in_braces l) ++ []) (ap states_of none ∙ states_none) ∙ braces_end [] ∙ sym (ap braces none ∙ braces_none))

-- ---- the lines of the states
module _ (m : Machine) (few : m.sets ≤ 64) where
  state_is : (s : ℕ) → state_lines m s ≡ lines_at m.sets m.observations m.successors m.fairness s
  unfolding lines_at state_text flatten observation successors items
  state_is s =
      let next = items (get_or m.successors s 0) ++ ascii "\n" in
      sym (append-nil _)
      ∙ state_lines_lem m s []
      ∙ ap (λ (w : List ℕ). ascii "State: [" ++ (label (observation m s) ++ (ascii "] " ++ (decimal s ++ (w ++ (ascii "\n" ++ next))))))
      (ap (λ (l : List ℕ). spread (ascii " ") (in_braces l)) (sets_are m s few) ∙ braces_are (sets_mask m.sets m.fairness s) (members_small m.sets m.fairness s few))

  states_are : (first count : ℕ)
      → flat_map (state_lines m) (numbers first count) ≡ flat_map (lines_at m.sets m.observations m.successors m.fairness) (numbers first count)
  unfolding flat_map numbers
  states_are first zero = refl
  states_are first (suc count) = ap₂ (λ (x y : List ℕ). x ++ y) (state_is first) (states_are (suc first) count)

  -- ---- the whole
  pub text_parts_lem : hoa_text m ≡ flatten (text_parts m)
  unfolding flatten lines_below
  text_parts_lem =
      text_lines m
      ∙ ap (λ (lines : List ℕ). head_text m.states m.sets m.start ++ (lines ++ ascii "--END--\n")) (states_are 0 m.states)
