-- Another whole text by computation, of a machine that has each form of a line: several start states, a state in no set, in one and in both, one successor and
-- several. Its masks all differ, and so do the numbers of states and sets; no two bits can change places in all observations and leave the text as it is.
use mathlib.Core.List.{◌∷◌, ◌++◌, flat_map, flatten}
use Rattle.std.specs.Prelude.{◌≡◌, refl, replicate}
use Rattle.mask.specs.Bits.{has_bit}
use Rattle.text.specs.Decimal.{decimal, digits_up_to}
use Rattle.machine.specs.declared.Machine.{Machine}
use Rattle.machine.specs.Machines.{observation, successors, fair_set, in_fair_set}
use Rattle.hanoi.specs.Words.{ascii, numbers, chosen, states_of, spread, joined}
use Rattle.hanoi.specs.Text.{line, start_line, name, names_line, infinitely, acceptance, literal, label, sets_with, in_braces, state_lines, hoa_text}

distinct : Machine
distinct = record {
  states = 3;
  sets = 2;
  start = 5;
  observations = 170 ∷ 204 ∷ 240 ∷ replicate 61 0;
  successors = 3 ∷ 2 ∷ 7 ∷ replicate 61 0;
  fairness = 4 ∷ 6 ∷ replicate 6 0;
}

distinct_text : hoa_text distinct
    ≡ ascii "HOA: v1\n"
    ++ ascii "States: 3\n"
    ++ ascii "Start: 0\n"
    ++ ascii "Start: 2\n"
    ++ ascii "AP: 8 \"o0\" \"o1\" \"o2\" \"o3\" \"o4\" \"o5\" \"o6\" \"o7\"\n"
    ++ ascii "acc-name: generalized-Buchi 2\n"
    ++ ascii "Acceptance: 2 Inf(0)&Inf(1)\n"
    ++ ascii "properties: state-labels state-acc\n"
    ++ ascii "--BODY--\n"
    ++ ascii "State: [!0&1&!2&3&!4&5&!6&7] 0\n"
    ++ ascii "0 1\n"
    ++ ascii "State: [!0&!1&2&3&!4&!5&6&7] 1 {1}\n"
    ++ ascii "1\n"
    ++ ascii "State: [!0&!1&!2&!3&4&5&6&7] 2 {0 1}\n"
    ++ ascii "0 1 2\n"
    ++ ascii "--END--\n"
unfolding distinct flat_map flatten hoa_text line start_line name names_line infinitely acceptance literal label sets_with in_braces state_lines numbers chosen states_of spread joined decimal digits_up_to observation successors in_fair_set fair_set has_bit
distinct_text = refl
