-- The solver by turns beside brute force. F and N are the rows of a family and of the next one, G the table of F, k a pair and what brute force says of it.
use Rattle.std.specs.Prelude.{ℕ, zero, suc, ◌+◌, ◌-◌, ◌*◌, ◌/◌, ◌%◌, Bool, true, false, cond, List, length, replicate, ◌==◌, nat_eq, nat_le, nat_lt, slice_index, Ok, Err}
use Rattle.std.specs.Result.{is_ok}
use Rattle.std.proofs.Math.Bool.{beq}
use Rattle.mask.specs.Bounded.{every}
use Rattle.mask.specs.Logic.{not, and, or}
use Rattle.machine.specs.declared.Pair.{Pair}
use Rattle.machine.specs.declared.Refusal.{Refusal}
use Rattle.machine.specs.Refusals.{Answer, Tested, and_then}
use Rattle.machine.specs.Machines.{n_c, n_a, sets_a}
use Rattle.machine.specs.Table.{blank, entries, place_of, table_room}
use Rattle.progress.specs.Turns.{first_answer, first_given, turn_answer, turn_family, turn_table, look_up_answer}
use Rattle.brute.specs.Families.{holds_pairs, family_table, numbered_family}
use Rattle.brute.specs.Ranking.{table_ranked}
use Rattle.comparison.specs.declared.tally.Tally.{Tally}
use Rattle.comparison.specs.declared.turns.Known.{Known}
use Rattle.comparison.specs.Answers.{same_answer, same_unit, says_yes}
use Rattle.comparison.specs.Tallies.{nothing, plus, total, of_test, of_turn, of_look_up}
use Rattle.comparison.specs.Tables.{zeros, within}
use Rattle.machine.specs.declared.Refusal.TheVariants.{OutOfRange}

-- ---- a turn
-- what a lent table is full of: no rank, and not blank
abbrev pub mark : ℕ
mark = 40000

abbrev pub marks : List ℕ
marks = replicate table_room mark

-- each entry from number n on is as it was lent
unfoldable pub kept_from : ℕ → List ℕ → Bool
kept_from n T = every table_room (λ e. or (nat_lt e n) (slice_index T e == mark))

unfoldable pub same_rows : List ℕ → List ℕ → Bool
same_rows F N = every 448 (λ e. nat_eq (slice_index F e) (slice_index N e))

-- N has the pairs with a rank over what G covers, and no stray bits
unfoldable pub rows_fit : Pair → List ℕ → List ℕ → Bool
rows_fit p G N = and (holds_pairs p N) (table_ranked p false G (family_table p N zeros))

-- a finished turn wrote n entries, the ranks over what G covers
unfoldable pub table_fits : Pair → ℕ → List ℕ → List ℕ → Bool
table_fits p n G T = and (kept_from n T) (table_ranked p true G T)

module _ (k : Known) where
  -- what a turn left and wrote, where nothing is refused: it is finished exactly if the rows are the same, and any other writes no entry
  unfoldable pub left_fits : List ℕ → List ℕ → List ℕ → Bool
  left_fits F N T =
      let G = family_table k.pair F zeros in
      and (rows_fit k.pair G N) (cond (same_rows F N) (table_fits k.pair k.entries G T) (kept_from 0 T))

  -- and what it said
  unfoldable pub made_agrees : Answer Bool → List ℕ → List ℕ → List ℕ → Bool
  made_agrees said F N T = and (same_answer beq said (Ok (same_rows F N))) (left_fits F N T)

  -- and beside a refusal: family and table are as they were
  unfoldable pub stopped_agrees : Refusal → Answer Bool → List ℕ → List ℕ → List ℕ → Bool
  stopped_agrees r said F N T = and (same_answer beq said (Err r)) (and (same_rows F N) (kept_from 0 T))

  -- by what brute force says
  unfoldable pub plain_agrees : Tested → Answer Bool → List ℕ → List ℕ → List ℕ → Bool
  plain_agrees (Ok t) said F N T = made_agrees said F N T
  plain_agrees (Err r) said F N T = stopped_agrees r said F N T

  unfoldable pub turn_agrees : Answer Bool → List ℕ → List ℕ → List ℕ → Bool
  turn_agrees said F N T = plain_agrees k.plain said F N T

-- what a turn says
unfoldable pub turn_said : Pair → List ℕ → Answer Bool
turn_said p F = turn_answer p F (length marks)

-- one turn
unfoldable pub turn_tally : Known → List ℕ → Tally
turn_tally k F =
    let said = turn_said k.pair F in
    of_turn (says_yes said) (turn_agrees k said F (turn_family k.pair F (length marks)) (turn_table k.pair F marks))

-- ---- look-ups
-- the section, counted from 1, and the states are in range
unfoldable pub in_range : Known → ℕ → ℕ → ℕ → Bool
in_range k j c a = and (not (j == 0)) (and (nat_le j k.sections) (and (nat_lt c k.concretes) (nat_lt a k.abstractions)))

-- what a look-up has to say
unfoldable pub plain_look_up : Known → List ℕ → ℕ → ℕ → ℕ → Answer Bool
plain_look_up k G j c a =
    let held = not (slice_index G (place_of k.concretes k.abstractions (j - 1) c a) == blank) in
    and_then k.plain (cond (in_range k j c a) (Ok held) (Err OutOfRange))

module _ (k : Known) where
  -- one look-up
  unfoldable pub look_up_tally : List ℕ → List ℕ → ℕ → ℕ → ℕ → Tally
  look_up_tally G F j c a =
      let said = look_up_answer k.pair F j c a in
      of_look_up (says_yes said) (same_answer beq said (plain_look_up k G j c a))

  -- every look-up of a family: sections from 0 to one too many, and states up to one too many
  unfoldable pub look_ups_tally : List ℕ → Tally
  look_ups_tally F =
      let row = k.abstractions + 1 in
      let section = (k.concretes + 1) * row in
      total ((k.sections + 2) * section) (λ i. look_up_tally (family_table k.pair F zeros) F (i / section) (i % section / row) (i % row))

  -- ---- families
  -- the turn of a family, and its look-ups
  unfoldable pub family_tally : List ℕ → Tally
  family_tally F = plus (turn_tally k F) (look_ups_tally F)

  -- the first `count` families of all, whose rows are digits from 0 to `row`
  unfoldable pub families_tally : ℕ → ℕ → Tally
  families_tally row count = total count (λ x. family_tally (numbered_family k.sections k.concretes row x))

  -- ---- from the first to the finish
  -- a first family has all matched pairs in every section and no stray bits
  unfoldable pub first_fits : List ℕ → Bool
  first_fits F =
      and (holds_pairs k.pair F) (within k.entries (family_table k.pair (replicate 448 18446744073709551615) zeros) (family_table k.pair F zeros))

  -- it is given, and fits, or refused, as brute force says
  unfoldable pub given_agrees : Answer (List ℕ) → Bool
  given_agrees (Ok F) = and (is_ok k.plain) (first_fits F)
  given_agrees (Err r) = same_answer same_unit k.plain (Err r)

  unfoldable pub first_agrees : Bool
  first_agrees = given_agrees (first_answer k.pair)

-- of n entries
unfoldable pub same_entries : ℕ → List ℕ → List ℕ → Bool
same_entries n S T = every n (λ e. nat_eq (slice_index S e) (slice_index T e))

-- a turn after the finish is finished too, and writes the n entries of S
unfoldable pub end_agrees : Pair → ℕ → List ℕ → List ℕ → Bool
end_agrees p n F S = and (says_yes (turn_said p F)) (same_entries n (turn_table p F marks) S)

module _ (k : Known) (S : List ℕ) where
  -- the families from F to the finish, at most n of them, counted on to what was counted before
  unfoldable pub walked : ℕ → List ℕ → Tally → Tally
  walked zero F sum = plus sum (of_test false)
  walked (suc n) F sum =
      let next = turn_family k.pair F (length marks) in
      let more = plus sum (family_tally k F) in
      let last = plus more (of_test (end_agrees k.pair k.entries next S)) in
      let later = walked n next more in
      cond (says_yes (turn_said k.pair F)) last later

  -- "after at most n × P + 1 turns", S being the solver's table; of a pair that is refused, from zeros
  unfoldable pub walk_tally : Tally
  walk_tally = walked (k.entries + 1) (first_given k.pair) nothing

-- what brute force says of a well-formed pair
unfoldable pub known_of : Pair → Tested → Known
known_of p plain = record { pair = p; plain = plain; entries = entries p; sections = sets_a p; concretes = n_c p; abstractions = n_a p }

-- a pair that the solver takes, with its table S
unfoldable pub turns_tally : Pair → Tested → ℕ → ℕ → List ℕ → Tally
turns_tally p plain row count S =
    let k = known_of p plain in
    plus (plus (of_test (first_agrees k)) (walk_tally k S)) (families_tally k row count)

-- and of one that it refuses
unfoldable pub unknown : Pair → Tested → Known
unknown p plain = record { pair = p; plain = plain; entries = 0; sections = 0; concretes = 0; abstractions = 0 }

-- a pair that the solver refuses, with a family of which each row has two bits
unfoldable pub stopped_tally : Pair → Tested → Tally
stopped_tally p plain =
    let k = unknown p plain in
    plus (of_test (first_agrees k)) (family_tally k (replicate 448 5))
