-- A whole text by computation, of a machine that has each form of a line: two start states, two sets, a state in no set and one in both, a state with two
-- successors, a bit that is one.
use mathlib.Core.List.{◌∷◌, ◌++◌, flat_map, flatten}
use Rattle.std.specs.Prelude.{◌≡◌, refl, replicate}
use Rattle.mask.specs.Bits.{has_bit}
use Rattle.text.specs.Decimal.{decimal, digits_up_to}
use Rattle.machine.specs.declared.Machine.{Machine}
use Rattle.machine.specs.Machines.{observation, successors, fair_set, in_fair_set}
use Rattle.hanoi.specs.Words.{ascii, numbers, chosen, states_of, spread, joined}
use Rattle.hanoi.specs.Text.{line, start_line, name, names_line, infinitely, acceptance, literal, label, sets_with, in_braces, state_lines, hoa_text}

example : Machine
example = record {
  states = 2;
  sets = 2;
  start = 3;
  observations = 1 ∷ replicate 63 0;
  successors = 3 ∷ 2 ∷ replicate 62 0;
  fairness = 2 ∷ 2 ∷ replicate 6 0;
}

example_text : hoa_text example
    ≡ ascii "HOA: v1\n"
    ++ ascii "States: 2\n"
    ++ ascii "Start: 0\n"
    ++ ascii "Start: 1\n"
    ++ ascii "AP: 8 \"o0\" \"o1\" \"o2\" \"o3\" \"o4\" \"o5\" \"o6\" \"o7\"\n"
    ++ ascii "acc-name: generalized-Buchi 2\n"
    ++ ascii "Acceptance: 2 Inf(0)&Inf(1)\n"
    ++ ascii "properties: state-labels state-acc\n"
    ++ ascii "--BODY--\n"
    ++ ascii "State: [0&!1&!2&!3&!4&!5&!6&!7] 0\n"
    ++ ascii "0 1\n"
    ++ ascii "State: [!0&!1&!2&!3&!4&!5&!6&!7] 1 {0 1}\n"
    ++ ascii "1\n"
    ++ ascii "--END--\n"
unfolding example flat_map flatten hoa_text line start_line name names_line infinitely acceptance literal label sets_with in_braces state_lines numbers chosen states_of spread joined decimal digits_up_to observation successors in_fair_set fair_set has_bit
example_text = refl
