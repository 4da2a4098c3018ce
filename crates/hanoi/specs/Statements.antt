-- What is shown of the text of a machine. Each statement is a type; Theorems.antt of proofs/ gives its proof, by name.
use Rattle.std.specs.Prelude.{◌≡◌, ℕ, ◌-◌, ◌^◌, ◌≤◌, length, replicate}
use Rattle.machine.specs.declared.Machine.{Machine}
use Rattle.machine.specs.Refusals.{valid}
use Rattle.machine.specs.WellFormed.{machine_validity}
use Rattle.codec.specs.Statements.{RepresentableMachine}
use Rattle.hanoi.specs.Text.{text_room, hoa_text}

-- "Two well-formed machines have the same text only if they are the same machine" (the text is injective): machines as the types of the code have them, whose
-- observations are bytes
abbrev pub TextTellsMachine : Type 0
TextTellsMachine = (a b : Machine) → RepresentableMachine a → RepresentableMachine b → machine_validity 8 a ≡ valid → machine_validity 8 b ≡ valid
    → hoa_text a ≡ hoa_text b → a ≡ b

-- the text of every well-formed machine fits into the buffer: 15,941 bytes are the greatest length there is
abbrev pub most_length : ℕ
most_length = 15941

abbrev pub TextFits : Type 0
TextFits = (m : Machine) → machine_validity 8 m ≡ valid → (length (hoa_text m) ≤ most_length) × (length (hoa_text m) ≤ text_room)

-- that of 64 states and 8 sets in which every state is a start state, is in every set and moves to every state, and observes 0
unfoldable pub largest : Machine
largest = record {
  states = 64;
  sets = 8;
  start = 2 ^ 64 - 1;
  observations = replicate 64 0;
  successors = replicate 64 (2 ^ 64 - 1);
  fairness = replicate 8 (2 ^ 64 - 1);
}

abbrev pub LongestText : Type 0
LongestText = RepresentableMachine largest × (machine_validity 8 largest ≡ valid) × (length (hoa_text largest) ≡ most_length)
