-- Document 01, "Shelf examples", cases 1 to 12, as one fact about one list, by computation; and a second list of small cases with two
-- concrete states, with more than one set, with an empty set, with a hidden mask or with several partners, which tell slips that cases 1 to 12 do
-- not tell.
use Rattle.std.specs.Prelude.{Bool, true, false, List, [], ◌∷◌, ◌≡◌, refl, ℕ, length, get_or, Result, Err, Ok}
use Rattle.mask.specs.Logic.{not, and, or}
use Rattle.mask.specs.Bits.{has_bit}
use Rattle.mask.specs.Bounded.{every, some, first, sum, count, every_in, some_in}
use Rattle.mask.specs.Tables.{mask_of, table}
use Rattle.machine.specs.declared.Machine.{Machine}
use Rattle.machine.specs.declared.Pair.{Pair}
use Rattle.machine.specs.Machines.{observation, successors, moves, starts, fair_set, in_fair_set, same_observation, pair_under, matched, next}
use Rattle.machine.specs.Refusals.{and_then, pass_on, four_numbers, Answer}
use Rattle.machine.specs.WellFormed.{counts_ok, beyond, state_beyond, set_beyond, is_beyond_counts, first_empty, has_empty_set, content_validity, sets_validity, content_tests, pair_tests, nonempty_validity}
use Rattle.machine.specs.Lassos.{Lasso, moment}
use Rattle.machine.specs.Step.{steps, better, least, partner, staying, single_step, found}
use Rattle.machine.specs.Iteration.{iterate, settle}
use Rattle.machine.specs.Game.{pair_set, mem, same_set, none, all_matched, goals, in_x, round_x, x_over, xs_over, union, level_over, levels, turn, first_family, same_family, family}
use Rattle.machine.specs.Ranks.{level_of, set_of, tower_over, tower, rank_in, rank_table, solver_table}
use Rattle.machine.specs.Table.{blank, entry_index, entry, covers, covered_count}
use Rattle.machine.specs.Lines.{non_blank, lower, at_most, goal_line, rank_line, passes, lines_validity}
use Rattle.machine.specs.Verdict.{start_covered, lacking_start, start_verdict, lines_verdict, empty_set_told}
use Rattle.machine.specs.Player.{has_bad_length, bad_step, missed_set, lasso_validity, start_partner, start_validity, section_after, follow, step_to, place_at, same_place, last_round, earlier_round, stem_length, loop_length, run, play_validity, play_answer}
use Rattle.machine.specs.declared.Run.{Run}
use Rattle.machine.specs.declared.Verdict.{Verdict}
use Rattle.machine.specs.declared.Verdict.TheVariants.{Carried, NotCarried}

-- a machine whose start state is 0, from the lists of its states' observations and successor masks and of its sets
machine_of : List ℕ → List ℕ → List ℕ → Machine
machine_of observations successors sets = record {
  states = length observations;
  sets = length sets;
  start = 1;
  observations = table 64 (λ s. get_or observations s 0);
  successors = table 64 (λ s. get_or successors s 0);
  fairness = table 8 (λ k. get_or sets k 0);
}

-- "By" has the rig before it and the score after it.
infix 20 ◌by◌
◌by◌ : Machine → Machine → Pair
C by A = pair_under 0 C A

-- the same machines under a hidden mask
under : ℕ → Pair → Pair
under hidden p = pair_under hidden p.concrete p.abstraction

-- K with its observation and its sets
K : ℕ → List ℕ → Machine
K o sets = machine_of (o ∷ []) (1 ∷ []) sets

S : Machine
S = machine_of (0 ∷ 0 ∷ []) (3 ∷ 2 ∷ []) (2 ∷ [])

Late : Machine
Late = machine_of (0 ∷ 1 ∷ 2 ∷ 3 ∷ []) (2 ∷ 12 ∷ 4 ∷ 8 ∷ []) (15 ∷ [])

Early : Machine
Early = machine_of (0 ∷ 1 ∷ 1 ∷ 2 ∷ 3 ∷ []) (6 ∷ 8 ∷ 16 ∷ 8 ∷ 16 ∷ []) (31 ∷ [])

-- an answer, or a refusal as its four numbers
abbrev Said : Type 0 → Type 0
Said A = Result A (List ℕ)

said : {A : Type 0} → Answer A → Said A
said (Ok a) = Ok a
said (Err r) = Err (four_numbers r)

refused : {A : Type 0} → ℕ → ℕ → ℕ → ℕ → Said A
refused number x y z = Err (number ∷ x ∷ y ∷ z ∷ [])

-- stem length and loop length of a run
played : ℕ → ℕ → Said Run
played s q = Ok (record { stem = s; cycle = q })

-- what a case asks, and what is answered: the solver's table, the check's verdict on a table and whether a concrete set is empty, the player's run;
-- the ranks alone, of machines that the solver refuses or not, and what stops the player
data Reply : Type 0 where
  solves : Said (List ℕ) → Reply
  says : Said Verdict → Bool → Reply
  plays : Said Run → List ℕ → Reply
  ranks : List ℕ → Reply
  stops : Said Run → Reply

solve : Pair → Reply
solve p = solves (said (and_then (nonempty_validity p) (Ok (solver_table p))))

rank_all : Pair → Reply
rank_all p = ranks (solver_table p)

check : Pair → List ℕ → Reply
check p T = let v = lines_verdict p T in says (said v) (empty_set_told p v)

solve_and_check : Pair → Reply
solve_and_check p = check p (solver_table p)

play : Pair → List ℕ → Lasso → Reply
play p T l = plays (said (play_answer p T l)) (run p T l)

stop : Pair → List ℕ → Lasso → Reply
stop p T l = stops (said (play_answer p T l))

-- cases 1 to 12; by document 02, No. 7, cases 2 and 3 are refusals
asked : List Reply
asked =
    solve (K 0 (1 ∷ []) by K 0 (1 ∷ []))
    ∷ solve (K 0 (1 ∷ []) by K 0 (0 ∷ []))
    ∷ solve (K 0 (0 ∷ []) by K 0 (0 ∷ []))
    ∷ solve (K 0 (1 ∷ []) by K 1 (1 ∷ []))
    ∷ solve (K 0 (1 ∷ []) by S)
    ∷ solve_and_check (K 0 (1 ∷ []) by S)
    ∷ check (K 0 (1 ∷ []) by S) (1 ∷ 0 ∷ [])
    ∷ check (K 0 (1 ∷ []) by S) (0 ∷ 0 ∷ [])
    ∷ check (K 0 (1 ∷ []) by S) (3 ∷ 0 ∷ [])
    ∷ check (K 0 (1 ∷ []) by S) (blank ∷ 0 ∷ [])
    ∷ play (K 0 (1 ∷ []) by S) (2 ∷ 0 ∷ []) (record { stem = []; loop = 0 ∷ [] })
    ∷ solve_and_check (Late by Early)
    ∷ solve_and_check (Early by Late)
    ∷ []

answered : List Reply
answered =
    solves (Ok (0 ∷ []))
    ∷ solves (refused 21 1 1 0)
    ∷ solves (refused 21 0 1 0)
    ∷ solves (Ok (blank ∷ []))
    ∷ solves (Ok (2 ∷ 0 ∷ []))
    ∷ says (Ok (Carried 2)) false
    ∷ says (Ok (Carried 2)) false
    ∷ says (refused 12 1 0 0) false
    ∷ says (refused 12 1 0 0) false
    ∷ says (Ok (NotCarried 0 1)) false
    ∷ plays (played 1 1) (0 ∷ 1 ∷ [])
    ∷ says (Ok (NotCarried 0 2)) false
    ∷ says (Ok (Carried 5)) false
    ∷ []

cases : asked ≡ answered
unfolding machine_of ◌by◌ K S Late Early said refused played four_numbers solve check solve_and_check play asked answered not and or has_bit every some first sum count every_in some_in mask_of table observation successors moves starts fair_set in_fair_set same_observation matched next and_then pass_on counts_ok beyond state_beyond set_beyond is_beyond_counts first_empty has_empty_set content_validity sets_validity content_tests pair_tests moment steps better least partner staying single_step found iterate settle pair_set mem same_set none all_matched goals in_x round_x x_over xs_over union level_over levels turn first_family same_family family level_of set_of tower_over tower rank_in rank_table solver_table entry_index entry covers covered_count non_blank lower at_most goal_line rank_line passes lines_validity start_covered lacking_start start_verdict lines_verdict empty_set_told has_bad_length bad_step missed_set lasso_validity start_partner start_validity section_after follow step_to place_at same_place last_round earlier_round stem_length loop_length run play_validity play_answer
cases = refl

-- a concrete machine of two states, 0 to 0 and 1 to 0, one observation
Two : List ℕ → Machine
Two sets = machine_of (0 ∷ 0 ∷ []) (1 ∷ 1 ∷ []) sets

-- a machine of one state, which has no successor, and of one set, which is empty
Stuck : Machine
Stuck = machine_of (0 ∷ []) (0 ∷ []) (0 ∷ [])

-- a concrete machine that shows a lamp, bit 2, in every second state
Lamp : Machine
Lamp = machine_of (0 ∷ 4 ∷ []) (2 ∷ 1 ∷ []) (3 ∷ [])

-- an abstract machine that goes from 0 to 1 or 2 and back, and shows the lamp in 2
Choice : Machine
Choice = machine_of (0 ∷ 0 ∷ 4 ∷ []) (6 ∷ 1 ∷ 1 ∷ []) (7 ∷ [])

-- an abstract machine that goes from 0 to 1, and from 1 to 0 or 1
Back : List ℕ → Machine
Back sets = machine_of (0 ∷ 0 ∷ []) (2 ∷ 3 ∷ []) sets

-- an abstract machine of three states that goes from each to the two others
Others : Machine
Others = machine_of (0 ∷ 0 ∷ 0 ∷ []) (6 ∷ 5 ∷ 3 ∷ []) (7 ∷ [])

-- cases with two concrete states, or with more than one set; what check and player say of the machines of case 2 and of case 3, where NotCarried and a
-- failing entry stand beside an empty concrete set too; the order of 21: the concrete machine's before 11 of the abstract one, 11 before 21 of the
-- same machine, and the lowest set first; then case 4 with bit 0 hidden and with bit 1 hidden, a lamp that is compared and one
-- that is hidden, and a play in which the hidden lamp leaves the lowest state to be taken; then plays that stay in the present state, 1, though the
-- lower state 0 is as good; that leave it for a lower entry; and that leave it since it has no move to itself
asked_more : List Reply
asked_more =
    rank_all (Two (2 ∷ []) by K 0 (0 ∷ []))
    ∷ check (Two (2 ∷ []) by K 0 (0 ∷ [])) (1 ∷ 1 ∷ [])
    ∷ check (K 0 (1 ∷ []) by K 0 (0 ∷ [])) (1 ∷ [])
    ∷ check (K 0 (0 ∷ []) by K 0 (0 ∷ 0 ∷ [])) (blank ∷ 1 ∷ [])
    ∷ check (K 0 (0 ∷ []) by K 0 (0 ∷ 1 ∷ [])) (blank ∷ 0 ∷ [])
    ∷ rank_all (K 0 (1 ∷ []) by K 0 (0 ∷ 1 ∷ []))
    ∷ rank_all (K 0 (1 ∷ 0 ∷ []) by K 0 (0 ∷ 0 ∷ []))
    ∷ rank_all (K 0 (1 ∷ []) by K 0 (0 ∷ []))
    ∷ check (K 0 (1 ∷ []) by K 0 (0 ∷ [])) (blank ∷ [])
    ∷ stop (K 0 (1 ∷ []) by K 0 (0 ∷ [])) (blank ∷ []) (record { stem = []; loop = 0 ∷ [] })
    ∷ rank_all (K 0 (0 ∷ []) by K 0 (0 ∷ []))
    ∷ check (K 0 (0 ∷ []) by K 0 (0 ∷ [])) (1 ∷ [])
    ∷ stop (K 0 (0 ∷ []) by K 0 (0 ∷ [])) (1 ∷ []) (record { stem = []; loop = 0 ∷ [] })
    ∷ check (K 0 (0 ∷ []) by K 0 (0 ∷ [])) (blank ∷ [])
    ∷ check (K 0 (0 ∷ []) by K 0 (0 ∷ [])) (0 ∷ [])
    ∷ solve (K 0 (1 ∷ 0 ∷ []) by Stuck)
    ∷ solve (K 0 (1 ∷ []) by Stuck)
    ∷ solve (Stuck by K 0 (1 ∷ []))
    ∷ solve (K 0 (1 ∷ []) by K 0 (1 ∷ 0 ∷ 0 ∷ []))
    ∷ solve (under 1 (K 0 (1 ∷ []) by K 1 (1 ∷ [])))
    ∷ solve_and_check (under 1 (K 0 (1 ∷ []) by K 1 (1 ∷ [])))
    ∷ solve (under 2 (K 0 (1 ∷ []) by K 1 (1 ∷ [])))
    ∷ solve_and_check (Lamp by K 0 (1 ∷ []))
    ∷ solve_and_check (under 4 (Lamp by K 0 (1 ∷ [])))
    ∷ solve (Lamp by Choice)
    ∷ solve (under 4 (Lamp by Choice))
    ∷ play (Lamp by Choice) (0 ∷ blank ∷ blank ∷ blank ∷ blank ∷ 0 ∷ []) (record { stem = []; loop = 0 ∷ 1 ∷ [] })
    ∷ play (under 4 (Lamp by Choice)) (0 ∷ 0 ∷ 0 ∷ 0 ∷ 0 ∷ 0 ∷ []) (record { stem = []; loop = 0 ∷ 1 ∷ [] })
    ∷ solve (K 0 (1 ∷ []) by Back (3 ∷ []))
    ∷ play (K 0 (1 ∷ []) by Back (3 ∷ [])) (0 ∷ 0 ∷ []) (record { stem = []; loop = 0 ∷ [] })
    ∷ solve (K 0 (1 ∷ []) by Back (1 ∷ []))
    ∷ play (K 0 (1 ∷ []) by Back (1 ∷ [])) (0 ∷ 2 ∷ []) (record { stem = []; loop = 0 ∷ [] })
    ∷ solve (K 0 (1 ∷ []) by Others)
    ∷ play (K 0 (1 ∷ []) by Others) (0 ∷ 0 ∷ 0 ∷ []) (record { stem = []; loop = 0 ∷ [] })
    ∷ []

answered_more : List Reply
answered_more =
    ranks (1 ∷ 2 ∷ [])
    ∷ says (refused 12 1 1 0) false
    ∷ says (refused 12 1 0 0) false
    ∷ says (Ok (NotCarried 0 1)) true
    ∷ says (refused 12 2 0 0) false
    ∷ ranks (blank ∷ blank ∷ [])
    ∷ ranks (2 ∷ 2 ∷ [])
    ∷ ranks (blank ∷ [])
    ∷ says (Ok (NotCarried 0 0)) false
    ∷ stops (refused 16 0 0 0)
    ∷ ranks (1 ∷ [])
    ∷ says (Ok (Carried 1)) true
    ∷ stops (refused 15 1 0 0)
    ∷ says (Ok (NotCarried 0 0)) true
    ∷ says (refused 12 1 0 0) false
    ∷ solves (refused 21 0 2 0)
    ∷ solves (refused 11 1 0 0)
    ∷ solves (refused 11 0 0 0)
    ∷ solves (refused 21 1 2 0)
    ∷ solves (Ok (0 ∷ []))
    ∷ says (Ok (Carried 1)) false
    ∷ solves (Ok (blank ∷ []))
    ∷ says (Ok (NotCarried 0 0)) false
    ∷ says (Ok (Carried 2)) false
    ∷ solves (Ok (0 ∷ blank ∷ blank ∷ blank ∷ blank ∷ 0 ∷ []))
    ∷ solves (Ok (0 ∷ 0 ∷ 0 ∷ 0 ∷ 0 ∷ 0 ∷ []))
    ∷ plays (played 0 2) (0 ∷ 2 ∷ [])
    ∷ plays (played 0 2) (0 ∷ 1 ∷ [])
    ∷ solves (Ok (0 ∷ 0 ∷ []))
    ∷ plays (played 1 1) (0 ∷ 1 ∷ [])
    ∷ solves (Ok (0 ∷ 2 ∷ []))
    ∷ plays (played 0 2) (0 ∷ 1 ∷ [])
    ∷ solves (Ok (0 ∷ 0 ∷ 0 ∷ []))
    ∷ plays (played 0 2) (0 ∷ 1 ∷ [])
    ∷ []

cases_more : asked_more ≡ answered_more
unfolding machine_of ◌by◌ K S Late Early said refused played four_numbers solve rank_all check solve_and_check play stop asked_more answered_more Two Stuck under Lamp Choice Back Others not and or has_bit every some first sum count every_in some_in mask_of table observation successors moves starts fair_set in_fair_set same_observation matched next and_then pass_on counts_ok beyond state_beyond set_beyond is_beyond_counts first_empty has_empty_set content_validity sets_validity content_tests pair_tests moment steps better least partner staying single_step found iterate settle pair_set mem same_set none all_matched goals in_x round_x x_over xs_over union level_over levels turn first_family same_family family level_of set_of tower_over tower rank_in rank_table solver_table entry_index entry covers covered_count non_blank lower at_most goal_line rank_line passes lines_validity start_covered lacking_start start_verdict lines_verdict empty_set_told has_bad_length bad_step missed_set lasso_validity start_partner start_validity section_after follow step_to place_at same_place last_round earlier_round stem_length loop_length run play_validity play_answer
cases_more = refl
