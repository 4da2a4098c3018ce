-- The parts of the text as the code puts them, over masks and lists; TextLaws.antt of proofs/ says that together they are the text.
use Rattle.std.specs.Prelude.{cond, ℕ, ◌-◌, eqb, get_or}
use mathlib.Core.List.{List, [], ◌∷◌, ◌++◌, map, flat_map, flatten}
use Rattle.mask.specs.Bits.{has_bit}
use Rattle.mask.specs.Tables.{mask_of}
use Rattle.text.specs.Decimal.{decimal}
use Rattle.machine.specs.declared.Machine.{Machine}
use Rattle.hanoi.specs.Words.{ascii, numbers, below, states_of, spread, joined}
use Rattle.hanoi.specs.Text.{start_line, infinitely, acceptance, literal, label}

-- the numbers of a mask, a blank between two
unfoldable pub items : ℕ → List ℕ
items mask = joined (ascii " ") (map decimal (states_of mask))

unfoldable pub start_lines : ℕ → List ℕ
start_lines mask = flat_map start_line (states_of mask)

-- a blank and the numbers of a mask in braces, nothing for the empty mask
abbrev pub braces_parts : ℕ → List (List ℕ)
braces_parts mask = ascii " {" ∷ items mask ∷ ascii "}" ∷ []

unfoldable pub braces : ℕ → List ℕ
braces mask = cond (eqb mask 0) [] (flatten (braces_parts mask))

-- the two lines of state s with observation o, by the masks of its sets and successors
abbrev pub state_parts : ℕ → ℕ → ℕ → ℕ → List (List ℕ)
state_parts s o members successors =
    ascii "State: [" ∷ label o ∷ (ascii "] " ++ decimal s) ∷ braces members ∷ ascii "\n" ∷ items successors ∷ ascii "\n" ∷ []

unfoldable pub state_text : ℕ → ℕ → ℕ → ℕ → List ℕ
state_text s o members successors = flatten (state_parts s o members successors)

-- the mask of the sets below k that have state s
unfoldable pub sets_mask : ℕ → List ℕ → ℕ → ℕ
sets_mask k fairness s = mask_of k (λ j. has_bit (get_or fairness j 0) s)

-- the lines of state s of a machine with k sets
unfoldable pub lines_at : ℕ → List ℕ → List ℕ → List ℕ → ℕ → List ℕ
lines_at k observations successors fairness s = state_text s (get_or observations s 0) (sets_mask k fairness s) (get_or successors s 0)

-- the lines of the states below n
unfoldable pub lines_below : ℕ → ℕ → List ℕ → List ℕ → List ℕ → List ℕ
lines_below n k observations successors fairness = flat_map (lines_at k observations successors fairness) (below n)

-- the words of the line of names and of the next
abbrev pub names_word : List ℕ
names_word = ascii "AP: 8 \"o0\" \"o1\" \"o2\" \"o3\" \"o4\" \"o5\" \"o6\" \"o7\"\n"

abbrev pub count_word : List ℕ
count_word = ascii "acc-name: generalized-Buchi "

-- the words from the acceptance condition's end to the states
abbrev pub body_word : List ℕ
body_word = ascii "properties: state-labels state-acc\n--BODY--\n"

-- all lines before those of the states, by the counts of states and sets and the start mask
abbrev pub head_parts : ℕ → ℕ → ℕ → List (List ℕ)
head_parts n k start =
    (ascii "HOA: v1\nStates: " ++ decimal n)
    ∷ ascii "\n"
    ∷ start_lines start
    ∷ (names_word ++ count_word ++ decimal k)
    ∷ (ascii "\nAcceptance: " ++ decimal k)
    ∷ ascii " "
    ∷ acceptance k
    ∷ (ascii "\n" ++ body_word)
    ∷ []

unfoldable pub head_text : ℕ → ℕ → ℕ → List ℕ
head_text n k start = flatten (head_parts n k start)

-- the whole text of a machine
abbrev pub text_parts : Machine → List (List ℕ)
text_parts m =
    head_text m.states m.sets m.start
    ∷ lines_below m.states m.sets m.observations m.successors m.fairness
    ∷ ascii "--END--\n"
    ∷ []

-- ---- what is left for a loop to put
-- the numbers of a mask, a blank before each
unfoldable pub spaced : ℕ → List ℕ
spaced mask = spread (ascii " ") (map decimal (states_of mask))

-- the acceptance condition from set k of n on
unfoldable pub conditions : ℕ → ℕ → List ℕ
conditions k n = spread (ascii "&") (map infinitely (numbers k (n - k)))

-- `count` literals of a label from bit i on
unfoldable pub literals : ℕ → ℕ → ℕ → List ℕ
literals o i count = spread (ascii "&") (map (literal o) (numbers i count))

-- the lines from state s of n on
unfoldable pub lines_from : ℕ → List ℕ → List ℕ → List ℕ → ℕ → ℕ → List ℕ
lines_from k observations successors fairness s n = flat_map (lines_at k observations successors fairness) (numbers s (n - s))
