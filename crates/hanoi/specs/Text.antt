-- Document 02, No. 1: the text of a machine in the Hanoi Omega-Automata format, HOA v1, line by line.
use Rattle.std.specs.Prelude.{cond, ℕ, length, Ok}
use mathlib.Core.List.{List, [], ◌∷◌, ◌++◌, map, flat_map, flatten}
use Rattle.mask.specs.Bits.{has_bit}
use Rattle.text.specs.Decimal.{decimal}
use Rattle.machine.specs.declared.Machine.{Machine}
use Rattle.machine.specs.Machines.{observation, successors, in_fair_set}
use Rattle.machine.specs.Refusals.{Tested, and_then, buffer_validity, buffer_after, Answer}
use Rattle.machine.specs.WellFormed.{machine_validity}
use Rattle.hanoi.specs.Words.{ascii, below, chosen, states_of, joined}

-- "Items on a line stand one blank apart, and each line ends with a line feed."
unfoldable pub line : List (List ℕ) → List ℕ
line items = joined (ascii " ") items ++ ascii "\n"

-- "one `Start:` line for each start state"
unfoldable pub start_line : ℕ → List ℕ
start_line s = line (ascii "Start:" ∷ decimal s ∷ [])

-- "`AP: 8` and the quoted names o0 to o7"
unfoldable pub name : ℕ → List ℕ
name i = ascii "\"o" ++ decimal i ++ ascii "\""

unfoldable pub names_line : List ℕ
names_line = line (ascii "AP:" ∷ ascii "8" ∷ map name (below 8))

-- "Inf(0)&Inf(1) onwards", for n sets: each is met infinitely often
unfoldable pub infinitely : ℕ → List ℕ
infinitely k = ascii "Inf(" ++ decimal k ++ ascii ")"

unfoldable pub acceptance : ℕ → List ℕ
acceptance n = joined (ascii "&") (map infinitely (below n))

-- "The label is the numbers 0 to 7 joined by &, each with ! before it where that bit of the observation is zero"
unfoldable pub literal : ℕ → ℕ → List ℕ
literal o i = cond (has_bit o i) (ascii "") (ascii "!") ++ decimal i

unfoldable pub label : ℕ → List ℕ
label o = joined (ascii "&") (map (literal o) (below 8))

-- the sets that state s is in, from 0, ascending
unfoldable pub sets_with : Machine → ℕ → List ℕ
sets_with m s = chosen (λ k. in_fair_set m k s) (below m.sets)

-- "its sets from 0 in braces"; "a state in no set has no braces"
unfoldable pub in_braces : List ℕ → List (List ℕ)
in_braces [] = []
in_braces (k ∷ ks) = (ascii "{" ++ joined (ascii " ") (map decimal (k ∷ ks)) ++ ascii "}") ∷ []

-- "for each state `State:`, its label in brackets, its number and its sets from 0 in braces; then a line of successors"
unfoldable pub state_lines : Machine → ℕ → List ℕ
state_lines m s =
    line (ascii "State:" ∷ (ascii "[" ++ label (observation m s) ++ ascii "]") ∷ decimal s ∷ in_braces (sets_with m s))
    ++ line (map decimal (states_of (successors m s)))

-- the whole text: "States, sets and successors ascend."
unfoldable pub hoa_text : Machine → List ℕ
hoa_text m = flatten
    (line (ascii "HOA:" ∷ ascii "v1" ∷ [])
    ∷ line (ascii "States:" ∷ decimal m.states ∷ [])
    ∷ flat_map start_line (states_of m.start)
    ∷ names_line
    ∷ line (ascii "acc-name:" ∷ ascii "generalized-Buchi" ∷ decimal m.sets ∷ [])
    ∷ line (ascii "Acceptance:" ∷ decimal m.sets ∷ acceptance m.sets ∷ [])
    ∷ line (ascii "properties:" ∷ ascii "state-labels" ∷ ascii "state-acc" ∷ [])
    ∷ line (ascii "--BODY--" ∷ [])
    ∷ flat_map (state_lines m) (below m.states)
    ∷ line (ascii "--END--" ∷ [])
    ∷ [])

-- ---- the call
-- "The buffer has 20,000 bytes"
abbrev pub text_room : ℕ
text_room = 20000

-- all that is tested: 1 of the lent buffer, then 5 and 9 to 11. "Either kind of machine is taken, with 1 to 8 sets."
unfoldable pub text_validity : Machine → ℕ → Tested
text_validity m room = and_then (buffer_validity text_room room) (machine_validity 8 m)

-- the text's length, or a refusal
unfoldable pub text_answer : Machine → ℕ → Answer ℕ
text_answer m room = and_then (text_validity m room) (Ok (length (hoa_text m)))

-- the lent buffer's final content: bytes "past the text are unchanged"
unfoldable pub text_buffer : Machine → List ℕ → List ℕ
text_buffer m buffer = buffer_after (text_validity m (length buffer)) (hoa_text m) buffer
