-- Document 02, No. 6: the solver by turns. A family is 448 masks of any content; what a turn and a look-up see of it is `family_in`.
use Rattle.std.specs.Prelude.{Bool, false, cond, List, [], ◌++◌, ℕ, ◌-◌, eqb, ltb, leb, length, get_or, drop, replicate, Err, Ok}
use Rattle.mask.specs.Logic.{and}
use Rattle.mask.specs.Bounded.{every}
use Rattle.machine.specs.declared.Pair.{Pair}
use Rattle.machine.specs.Machines.{n_c, n_a, sets_a}
use Rattle.machine.specs.Refusals.{Tested, valid, and_then, state_after, Answer}
use Rattle.machine.specs.WellFormed.{nonempty_validity}
use Rattle.machine.specs.Game.{mem, first_family}
use Rattle.machine.specs.Ranks.{rank_table}
use Rattle.solver.specs.Families.{flat_of, family_in, turn_rows}
use Rattle.solver.specs.Solver.{solve_validity}
use Rattle.machine.specs.declared.Refusal.TheVariants.{OutOfRange}

-- "the first being all matched pairs in every section"
unfoldable pub first_rows : Pair → List ℕ
first_rows p = flat_of (first_family p)

-- what the first call says: 5, 9 to 11 and 21, or the family
unfoldable pub first_answer : Pair → Answer (List ℕ)
first_answer p = and_then (nonempty_validity p) (Ok (first_rows p))

-- the family that lists of turns begin with: for machines that the call refuses zeros, of which no turn makes anything
unfoldable pub first_given : Pair → List ℕ
first_given p = state_after (nonempty_validity p) (first_rows p) (replicate 448 0)

-- "It is finished when a turn changes nothing": each row is as it was
unfoldable pub finishes : Pair → List ℕ → Bool
finishes p F = let G = turn_rows p F in every 448 (λ e. eqb (get_or F e 0) (get_or G e 0))

-- what a turn says, lent a table of so many entries: a refusal of the solver, or whether it is finished
unfoldable pub turn_answer : Pair → List ℕ → ℕ → Answer Bool
turn_answer p F room = and_then (solve_validity p room) (Ok (finishes p F))

-- the family that it gives: beside a refusal the one handed in
unfoldable pub turn_family : Pair → List ℕ → ℕ → List ℕ
turn_family p F room = state_after (turn_answer p F room) (turn_rows p F) F

-- the answer is that it is finished
unfoldable pub says_finished : Answer Bool → Bool
says_finished (Ok b) = b
says_finished (Err r) = false

-- the lent table's final content: "only such a turn writes the table", the ranks over the family
unfoldable pub turn_table : Pair → List ℕ → List ℕ → List ℕ
turn_table p F T =
    let ranks = rank_table p (family_in p F) in
    let written = ranks ++ drop (length ranks) T in
    cond (says_finished (turn_answer p F (length T))) written T

-- "one may look up a pair in a section: still in, or struck out"; the section is counted from 0 here
unfoldable pub still_in : Pair → List ℕ → ℕ → ℕ → ℕ → Bool
still_in p F j c a = mem p (get_or (family_in p F) j []) c a

-- 20: "a look-up whose section or state is out of range", the section counted from 1, as document 01 does
unfoldable pub range_validity : Pair → ℕ → ℕ → ℕ → Tested
range_validity p j c a =
    cond (and (and (leb 1 j) (leb j (sets_a p))) (and (ltb c (n_c p)) (ltb a (n_a p)))) valid (Err OutOfRange)

-- what a look-up says, "after all else" 20: a refusal, or whether the pair is still in
unfoldable pub look_up_answer : Pair → List ℕ → ℕ → ℕ → ℕ → Answer Bool
look_up_answer p F j c a = and_then (nonempty_validity p) (and_then (range_validity p j c a) (Ok (still_in p F (j - 1) c a)))
