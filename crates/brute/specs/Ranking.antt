-- Ranks by trying every set of pairs, or by striking pairs out. T is a table that tells what is covered, j a section; pair number e is (e / nA, e % nA).
use Rattle.std.specs.Prelude.{Bool, cond, List, ℕ, zero, suc, ◌+◌, ◌*◌, ◌/◌, ◌%◌, min, get_or, replicate, set, eqb, leb}
use Rattle.mask.specs.Bits.{full_mask}
use Rattle.mask.specs.Bounded.{every, first}
use Rattle.mask.specs.Logic.{not, and, or}
use Rattle.mask.specs.Tables.{front}
use Rattle.machine.specs.declared.Pair.{Pair}
use Rattle.machine.specs.Machines.{in_fair_set, matched, n_a, sets_c, sets_a, pairs}
use Rattle.machine.specs.WellFormed.{well_formed}
use Rattle.machine.specs.Step.{steps}
use Rattle.machine.specs.Table.{blank}
use Rattle.machine.specs.Lines.{goal_line}
use Rattle.brute.specs.declared.lines.Target.TheVariants.{NonBlank, AtMost}
use Rattle.brute.specs.Lines.{in_target}
use Rattle.brute.specs.Numbers.{numbered_table}

-- of the first n pairs, rank r for those of set S that have none yet
unfoldable pub marked : ℕ → List ℕ → ℕ → List ℕ → List ℕ
marked n S r R = front n (λ e. cond (and (not (eqb (get_or S e 0) blank)) (eqb (get_or R e 0) blank)) r (get_or R e 0)) R

-- room for the pairs of any two machines
abbrev pub pair_room : ℕ
pair_room = 4096

-- no pair has a rank
abbrev pub unranked : List ℕ
unranked = replicate pair_room blank

-- an entry; where it need not be exact, only whether it is blank
unfoldable pub shown_entry : Bool → ℕ → ℕ
shown_entry exact e = cond exact e (cond (eqb e blank) blank 0)

module _ (p : Pair) where
  -- the set whose number is x, as a table: 0 for its pairs, and else blank
  unfoldable pub as_table : ℕ → List ℕ
  as_table x = numbered_table 1 x (pairs p) (replicate 64 blank)

  module _ (T : List ℕ) (j : ℕ) where
    -- "a goal, or steps into level l − 1, or has c outside rig set k and steps into X": level l − 1 has the entries of R that are at
    -- most `low`, X those of S that are not blank
    unfoldable pub keeps : List ℕ → ℕ → ℕ → List ℕ → ℕ → ℕ → Bool
    keeps R low k S c a =
        and (matched p c a)
        (or (goal_line p T j c a)
        (or (steps p (in_target p R (AtMost low) 0) c a)
        (and (not (in_fair_set p.concrete k c)) (steps p (in_target p S NonBlank 0) c a))))

    -- the first pair of S that does not meet the rule of X(l, k) over it, where i + 1 = (l − 1) × m + k; P where each meets it
    unfoldable pub unkept : List ℕ → ℕ → List ℕ → ℕ
    unkept R i S =
        first (pairs p) (λ e. and (not (eqb (get_or S e 0) blank)) (not (keeps R (i / sets_c p * sets_c p) (i % sets_c p) S (e / n_a p) (e % n_a p))))

    -- each pair of set number x meets that rule over it
    unfoldable pub closed : List ℕ → ℕ → ℕ → Bool
    closed R i x = eqb (unkept R i (as_table x)) (pairs p)

    -- the greatest number up to x of such a set
    unfoldable pub largest : List ℕ → ℕ → ℕ → ℕ
    largest R i zero = 0
    largest R i (suc x) = let less = largest R i x in cond (closed R i (suc x)) (suc x) less

    -- the first pair that does not meet the rule struck out, at most n times
    unfoldable pub struck : List ℕ → ℕ → ℕ → List ℕ → List ℕ
    struck R i zero S = S
    struck R i (suc n) S = let later = struck R i n (set S (unkept R i S) blank) in cond (eqb (unkept R i S) (pairs p)) S later

    -- X(l, k), where S has all pairs
    unfoldable pub largest_set : List ℕ → ℕ → List ℕ → List ℕ
    largest_set R i S = cond (leb (pairs p) 12) (numbered_table 1 (largest R i (full_mask (min (pairs p) 64))) (pairs p) S) (struck R i (pairs p) S)

    -- the pairs of the first n sets X(1, 1), .., X(1, m), X(2, 1), .. have their ranks
    unfoldable pub ranked : ℕ → List ℕ → List ℕ
    ranked zero R = R
    ranked (suc i) R = let before = ranked i R in marked (pairs p) (largest_set before i (replicate pair_room 0)) (suc i) before

    -- the rank of pair number e: "0 for a goal"
    unfoldable pub rank_of : List ℕ → ℕ → ℕ
    rank_of R e = cond (and (matched p (e / n_a p) (e % n_a p)) (goal_line p T j (e / n_a p) (e % n_a p))) 0 (get_or R e 0)

  -- section j of table S has the ranks; or, where they need not be exact, covers the pairs that have one
  unfoldable pub section_ranked : Bool → List ℕ → List ℕ → ℕ → Bool
  section_ranked exact T S j =
      let R = ranked T j (sets_c p * pairs p) unranked in
      every (pairs p) (λ e. eqb (shown_entry exact (rank_of T j R e)) (shown_entry exact (get_or S (j * pairs p + e) 0)))

  -- the machines are well formed and each section of table S has the ranks, or covers the pairs that have one
  unfoldable pub table_ranked : Bool → List ℕ → List ℕ → Bool
  table_ranked exact T S = and (well_formed p) (every (sets_a p) (section_ranked exact T S))
