-- Document 01, "Where a call is stopped": what a call says, what it leaves in a lent buffer, and the refusals' numbers, by the names that they
-- have in the code.
use Rattle.std.specs.Prelude.{cond, List, [], ◌∷◌, ◌++◌, ℕ, zero, suc, length, drop, ltb, Result, Ok, Err, Option, Some, None}
use Rattle.std.proofs.lemmas.List.Edits.{sets}
use Rattle.machine.specs.declared.Refusal.{Refusal}
use Rattle.machine.specs.declared.Refusal.TheVariants.{ShortBuffer, BadLength, BadFirstBlock, BadHeader, BadCounts, WrongLength, BadBlock, BadPadding, BeyondCounts, NoStart, NoSuccessor, FailingEntry, BadLassoLength, BadLassoStep, UnfairLasso, NoStartPartner, Misplaced, OutOfRange, EmptySet, UnlikeLast, TooManyFiles}

-- what a call says: an answer, or where it was stopped
abbrev pub Answer : Type 0 → Type 0
Answer A = Result A Refusal

-- what a test says: that nothing stops the call, or where it was stopped
abbrev pub Tested : Type 0
Tested = Answer (Unit {0})

abbrev pub valid : Tested
valid = Ok tt

-- what comes after an answer is said of it; a refusal is passed on
unfoldable pub pass_on : {A B : Type 0} → Answer A → (A → Answer B) → Answer B
pass_on (Ok a) f = f a
pass_on (Err r) f = Err r

-- "Tested in this order": the first refusal of two counts. The second is another test, or the answer that is given unless the first refuses.
unfoldable pub and_then : {A : Type 0} → Tested → Answer A → Answer A
and_then v w = pass_on v (λ t. w)

-- the tests of 0, .., n - 1 in this order, the lowest first
unfoldable pub each : ℕ → (ℕ → Tested) → Tested
each zero t = valid
each (suc n) t = and_then (each n t) (t n)

-- a lent buffer's final content: what was made at its front, and the rest as it was. A refusal "changes no lent buffer".
unfoldable pub buffer_after : {A : Type 0} → Answer A → List ℕ → List ℕ → List ℕ
buffer_after (Ok a) made buffer = made ++ drop (length made) buffer
buffer_after (Err r) made buffer = buffer

-- "a state handed in comes back unchanged" beside a refusal, and else what was made of it comes back
unfoldable pub state_after : {A S : Type 0} → Answer A → S → S → S
state_after (Ok a) made given = made
state_after (Err r) made given = given

-- ---- document 01's table
-- "No.", by the condition. Document 02, No. 5: "It refuses with 19 a block whose check holds and whose number isn't its place"; No. 6: "It refuses
-- with 20, after all else, a look-up whose section or state is out of range." A machine of a file that is asked for by another number than 0 and 1
-- has it too; No. 7: "It refuses with 21, after 11 of the same machine, a set without a state"; No. 9: "It refuses with 25, after 11 and before its
-- table is missed or checked, a rig that isn't the score before it or a hidden mask unlike the last, and with 26, before all else, an unended walk's
-- seventeenth file."
abbrev pub number_of : Refusal → ℕ
number_of ShortBuffer = 1
number_of BadLength = 2
number_of BadFirstBlock = 3
number_of BadHeader = 4
number_of BadCounts = 5
number_of WrongLength = 6
number_of (BadBlock block) = 7
number_of BadPadding = 8
number_of (BeyondCounts machine) = 9
number_of (NoStart machine) = 10
number_of (NoSuccessor machine state) = 11
number_of (FailingEntry section c a) = 12
number_of BadLassoLength = 13
number_of (BadLassoStep position) = 14
number_of (UnfairLasso set) = 15
number_of NoStartPartner = 16
number_of (Misplaced block found) = 19
number_of OutOfRange = 20
number_of (EmptySet machine set) = 21
number_of UnlikeLast = 25
number_of TooManyFiles = 26

-- "Three numbers tell the spot, 0 where unused"; "a later number without a stated spot has three zeros"
abbrev pub spot_of : Refusal → List ℕ
spot_of ShortBuffer = 0 ∷ 0 ∷ 0 ∷ []
spot_of BadLength = 0 ∷ 0 ∷ 0 ∷ []
spot_of BadFirstBlock = 0 ∷ 0 ∷ 0 ∷ []
spot_of BadHeader = 0 ∷ 0 ∷ 0 ∷ []
spot_of BadCounts = 0 ∷ 0 ∷ 0 ∷ []
spot_of WrongLength = 0 ∷ 0 ∷ 0 ∷ []
spot_of (BadBlock block) = block ∷ 0 ∷ 0 ∷ []
spot_of BadPadding = 0 ∷ 0 ∷ 0 ∷ []
spot_of (BeyondCounts machine) = machine ∷ 0 ∷ 0 ∷ []
spot_of (NoStart machine) = machine ∷ 0 ∷ 0 ∷ []
spot_of (NoSuccessor machine state) = machine ∷ state ∷ 0 ∷ []
spot_of (FailingEntry section c a) = section ∷ c ∷ a ∷ []
spot_of BadLassoLength = 0 ∷ 0 ∷ 0 ∷ []
spot_of (BadLassoStep position) = position ∷ 0 ∷ 0 ∷ []
spot_of (UnfairLasso set) = set ∷ 0 ∷ 0 ∷ []
spot_of NoStartPartner = 0 ∷ 0 ∷ 0 ∷ []
spot_of (Misplaced block found) = block ∷ found ∷ 0 ∷ []
spot_of OutOfRange = 0 ∷ 0 ∷ 0 ∷ []
spot_of (EmptySet machine set) = machine ∷ set ∷ 0 ∷ []
spot_of UnlikeLast = 0 ∷ 0 ∷ 0 ∷ []
spot_of TooManyFiles = 0 ∷ 0 ∷ 0 ∷ []

-- its four numbers, as C gets them
unfoldable pub four_numbers : Refusal → List ℕ
four_numbers r = number_of r ∷ spot_of r

-- the answer, if there is one
unfoldable pub answer_in : {A : Type 0} → Answer A → Option A
answer_in (Ok a) = Some a
answer_in (Err r) = None

-- for C: the final content of the list of four that is given for them; beside an answer it is unchanged
unfoldable pub spot_after : {A : Type 0} → Answer A → List ℕ → List ℕ
spot_after (Ok a) spot = spot
spot_after (Err r) spot = sets spot 0 (four_numbers r)

-- 1: a lent buffer of some length is "shorter than stated"
unfoldable pub buffer_validity : ℕ → ℕ → Tested
buffer_validity least len = cond (ltb len least) (Err ShortBuffer) valid
