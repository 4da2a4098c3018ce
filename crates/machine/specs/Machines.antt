-- Document 01, "Machines" and the head of "The game".
-- The rig is the concrete machine of a pair, the score its abstraction. States, fairness sets and sections are numbered from 0 here:
-- document 01's set k and section j are number k - 1 and j - 1.
use Rattle.std.specs.Prelude.{Bool, cond, ℕ, suc, ◌*◌, get_or, eqb, ltb, bytes_eq, ◌&&◌}
use Rattle.std.specs.Int.Bits.{bit_or}
use Rattle.mask.specs.Bits.{has_bit}
use Rattle.machine.specs.declared.Machine.{Machine}
use Rattle.machine.specs.declared.Pair.{Pair}

-- "Each state has an observation, one byte."
unfoldable pub observation : Machine → ℕ → ℕ
observation m s = get_or m.observations s 0

-- "a successor mask for each state"
unfoldable pub successors : Machine → ℕ → ℕ
successors m s = get_or m.successors s 0

-- t is a successor of s
unfoldable pub moves : Machine → ℕ → ℕ → Bool
moves m s t = has_bit (successors m s) t

-- s is a start state
unfoldable pub starts : Machine → ℕ → Bool
starts m s = has_bit m.start s

-- the mask of fairness set k
unfoldable pub fair_set : Machine → ℕ → ℕ
fair_set m k = get_or m.fairness k 0

-- s is in fairness set k
unfoldable pub in_fair_set : Machine → ℕ → ℕ → Bool
in_fair_set m k s = has_bit (fair_set m k) s

-- Document 02, No. 4: "the hidden mask, one byte for both machines; a set bit isn't compared". Two observations are the same in the bits that
-- are not hidden: with the hidden bits set in both, they are equal.
unfoldable pub same_observation : ℕ → ℕ → ℕ → Bool
same_observation hidden x y = eqb (bit_or hidden x) (bit_or hidden y)

-- two machines under a hidden mask
abbrev pub pair_under : ℕ → Machine → Machine → Pair
pair_under hidden concrete abstraction = record { concrete = concrete; abstraction = abstraction; hidden = hidden }

-- document 01's nC, m, nA, n and P of a pair
abbrev pub n_c : Pair → ℕ
n_c p = p.concrete.states

abbrev pub sets_c : Pair → ℕ
sets_c p = p.concrete.sets

abbrev pub n_a : Pair → ℕ
n_a p = p.abstraction.states

abbrev pub sets_a : Pair → ℕ
sets_a p = p.abstraction.sets

abbrev pub pairs : Pair → ℕ
pairs p = n_c p * n_a p

-- "A pair (c, a) is matched if the observations of c and a are equal", and by document 02, No. 4, "equal in the other bits", those not hidden
unfoldable pub matched : Pair → ℕ → ℕ → Bool
matched p c a = same_observation p.hidden (observation p.concrete c) (observation p.abstraction a)

-- "Sections run 1 to n, and after n comes 1."
unfoldable pub next : ℕ → ℕ → ℕ
next n j = cond (ltb (suc j) n) (suc j) 0

-- Document 02, No. 9: "equals .. in every field". With the library's `&&`, as a derived `==` has it.
unfoldable pub same_machine : Machine → Machine → Bool
same_machine x y =
    eqb x.states y.states && (eqb x.sets y.sets && (eqb x.start y.start
    && (bytes_eq x.observations y.observations && (bytes_eq x.successors y.successors && bytes_eq x.fairness y.fairness))))
