-- A proof of each statement on the text of a machine. That it tells the machine is proved in TellsLaws.antt.
use mathlib.Core.List.{flat_map, flatten}
use Rattle.std.proofs.Math.Logic.{by_cases}
use Rattle.std.specs.Prelude.{refl, ℕ, ◌-◌, ◌^◌, ◌≤◌, ◌<◌, length, get_or, replicate}
use Rattle.std.proofs.Math.Decide.{dec_lt}
use Rattle.std.proofs.Common.{arith}
use Rattle.std.proofs.lemmas.List.{get_or-replicate, length-replicate}
use Rattle.std.proofs.Math.ListN.{get_or-eq_default}
use Rattle.mask.specs.Logic.{not, and, or}
use Rattle.mask.specs.Bits.{has_bit}
use Rattle.mask.specs.Bounded.{some, first, some_in}
use Rattle.text.specs.Decimal.{decimal, digits_up_to}
use Rattle.machine.specs.Machines.{observation, successors, fair_set, in_fair_set}
use Rattle.machine.specs.WellFormed.{counts_ok, beyond, state_beyond, set_beyond, is_beyond_counts, first_empty, content_validity, machine_validity}
use Rattle.machine.specs.WellFormedLaws.{valid_machine}
use Rattle.codec.specs.Statements.{RepresentableMachine}
use Rattle.hanoi.specs.Words.{numbers, chosen, states_of, spread, joined}
use Rattle.hanoi.specs.Text.{line, start_line, name, names_line, infinitely, acceptance, literal, label, sets_with, in_braces, state_lines, hoa_text}
use Rattle.hanoi.specs.Statements.{TextFits, LongestText, largest, TextTellsMachine}
use Rattle.hanoi.proofs.FitsLaws.{text_most}
use Rattle.hanoi.proofs.TellsLaws as tells

pub text_tells_machine : TextTellsMachine
text_tells_machine = tells.text_tells_machine

pub text_fits : TextFits
text_fits m e = let most = text_most m (valid_machine 8 m (omega arith) e) in (most, omega arith)

-- ---- the largest machine
repeated : (n v b s : ℕ) → v < b → get_or (replicate n v) s 0 < b
repeated n v b s h = by_cases (dec_lt s n)
    (λ l. omega (arith, get_or-replicate n s v 0 l))
    (λ l. let past : length (replicate n v) ≤ s = omega (arith, length-replicate {A = ℕ} n v) in omega (arith, get_or-eq_default (replicate n v) 0 past))

representable : RepresentableMachine largest
unfolding largest
representable = record {
  observations_length = refl;
  successors_length = refl;
  fairness_length = refl;
  observation_byte = λ s. repeated 64 0 256 s (omega arith);
  start_mask = omega arith;
  successors_mask = λ s. repeated 64 (2 ^ 64 - 1) (2 ^ 64) s (omega arith);
  fairness_mask = λ k. repeated 8 (2 ^ 64 - 1) (2 ^ 64) k (omega arith);
}

-- its tests and its text's length, by computation

pub longest_text : LongestText
unfolding largest flat_map flatten hoa_text line start_line name names_line infinitely acceptance literal label sets_with in_braces state_lines numbers chosen states_of spread joined decimal digits_up_to observation successors in_fair_set fair_set has_bit not and or counts_ok beyond state_beyond set_beyond is_beyond_counts first_empty content_validity machine_validity some first some_in
longest_text = (representable, refl, refl)
