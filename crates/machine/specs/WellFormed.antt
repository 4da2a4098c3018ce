-- Document 01: "Well formed means not stopped by refusals 5 and 9 to 11." Document 02, No. 7: 21 behind them, for the calls that take no empty
-- set. Any content of a machine has an answer.
use Rattle.std.specs.Prelude.{Bool, true, false, cond, List, ℕ, suc, get_or, eqb, ltb, leb, Err, Ok}
use Rattle.mask.specs.Logic.{not, and, or}
use Rattle.mask.specs.Bounded.{some, first, some_in}
use Rattle.machine.specs.declared.Machine.{Machine}
use Rattle.machine.specs.declared.Pair.{Pair}
use Rattle.machine.specs.Refusals.{Tested, valid, and_then}
use Rattle.machine.specs.declared.Refusal.TheVariants.{BadCounts, BeyondCounts, EmptySet, NoStart, NoSuccessor}

-- 5: "1 to 64" states; "1 to 8 fairness sets for a rig, 1 to 7 for a score"
unfoldable pub counts_ok : ℕ → ℕ → ℕ → Bool
counts_ok limit states sets = and (and (leb 1 states) (leb states 64)) (and (leb 1 sets) (leb sets limit))

-- some state of a mask is at or past n
unfoldable pub beyond : ℕ → ℕ → Bool
beyond n mask = some_in 64 mask (λ s. leb n s)

-- 9: "bit or entry beyond a count", at state s
unfoldable pub state_beyond : ℕ → List ℕ → List ℕ → ℕ → Bool
state_beyond states observations successors s =
    cond (ltb s states) (beyond states (get_or successors s 0)) (or (not (eqb (get_or observations s 0) 0)) (not (eqb (get_or successors s 0) 0)))

-- 9, at set k
unfoldable pub set_beyond : ℕ → ℕ → List ℕ → ℕ → Bool
set_beyond states sets fairness k = cond (ltb k sets) (beyond states (get_or fairness k 0)) (not (eqb (get_or fairness k 0) 0))

-- 9, of a whole machine
unfoldable pub is_beyond_counts : Machine → Bool
is_beyond_counts m =
    or (beyond m.states m.start)
    (or (some 64 (state_beyond m.states m.observations m.successors)) (some 8 (set_beyond m.states m.sets m.fairness)))

-- the lowest of the first `count` masks of a list with room for `room` of them that has no state; `room` where there is none
unfoldable pub first_empty : ℕ → ℕ → List ℕ → ℕ
first_empty room count masks = first room (λ i. and (ltb i count) (eqb (get_or masks i 0) 0))

-- 11: the lowest "state without successor", 64 where there is none
abbrev pub stuck_state : ℕ → List ℕ → ℕ
stuck_state states successors = first_empty 64 states successors

-- 21: the lowest "set without a state", counted from 0; 8 where there is none
abbrev pub lowest_empty_set : ℕ → List ℕ → ℕ
lowest_empty_set sets fairness = first_empty 8 sets fairness

-- 9, 10 and 11 of machine number i
unfoldable pub content_validity : ℕ → Machine → Tested
content_validity i m =
    let s = stuck_state m.states m.successors in
    cond (is_beyond_counts m) (Err (BeyondCounts i))
    (cond (eqb m.start 0) (Err (NoStart i))
    (cond (ltb s 64) (Err (NoSuccessor i s)) valid))

-- a machine has an empty set
unfoldable pub has_empty_set : Machine → Bool
has_empty_set m = ltb (lowest_empty_set m.sets m.fairness) 8

-- 21 of machine number i: "a set without a state, the spot being machine and set from 1"
unfoldable pub sets_validity : ℕ → Machine → Tested
sets_validity i m = cond (has_empty_set m) (Err (EmptySet i (suc (lowest_empty_set m.sets m.fairness)))) valid

-- all that is tested of the content of machine number i: 9, 10 and 11, and 21 "after 11 of the same machine" where its sets shall be nonempty
unfoldable pub content_tests : Bool → ℕ → Machine → Tested
content_tests true i m = and_then (content_validity i m) (sets_validity i m)
content_tests false i m = content_validity i m

-- one machine with at most `limit` sets: "A later call on one machine takes 1 to 8 sets unless its kind is said, and has it as machine 0"
unfoldable pub machine_validity : ℕ → Machine → Tested
machine_validity limit m = cond (counts_ok limit m.states m.sets) (content_validity 0 m) (Err BadCounts)

-- both machines: the counts first, and then "the rig goes through all .. before the score"
unfoldable pub pair_tests : Bool → Pair → Tested
pair_tests nonempty p =
    let C = p.concrete in
    let A = p.abstraction in
    cond (and (counts_ok 8 C.states C.sets) (counts_ok 7 A.states A.sets)) (and_then (content_tests nonempty 0 C) (content_tests nonempty 1 A))
    (Err BadCounts)

-- 5 and 9 to 11: "For 9 to 11 the rig goes through all three before the score."
abbrev pub pair_validity : Pair → Tested
pair_validity p = pair_tests false p

-- 5, 9 to 11 and 21
abbrev pub nonempty_validity : Pair → Tested
nonempty_validity p = pair_tests true p

unfoldable pub is_valid : Tested → Bool
is_valid (Ok t) = true
is_valid (Err r) = false

-- "Well formed means not stopped by refusals 5 and 9 to 11."
unfoldable pub well_formed : Pair → Bool
well_formed p = is_valid (pair_validity p)

-- "machines whose sets all have a state"
unfoldable pub nonempty_sets : Pair → Bool
nonempty_sets p = and (not (has_empty_set p.concrete)) (not (has_empty_set p.abstraction))
