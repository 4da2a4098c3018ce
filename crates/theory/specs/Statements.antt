-- What is shown of the game over the definitions of document 01, and of document 000's figure 2. Each statement is a type with its hypotheses in it,
-- and FixpointTheorems.antt and RankTheorems.antt of proofs/ give a proof of each: what is shown of well-formed machines only has `well_formed p ≡ true`, and
-- the others hold for machines of any content.
use Rattle.std.specs.Prelude.{true, false, List, [], ◌⊎◌, ◌↔◌, ◌≡◌, ℕ, suc, ◌+◌, ◌-◌, ◌*◌, ◌≤◌, ◌<◌, get_or, Ok}
use Rattle.machine.specs.declared.Pair.{Pair}
use Rattle.machine.specs.Machines.{n_c, n_a, sets_c, sets_a, pairs, starts, matched}
use Rattle.machine.specs.WellFormed.{well_formed}
use Rattle.machine.specs.Game.{mem, goals, in_x, x_after, x_over, level, x_set, levels, turn, family_after, family}
use Rattle.machine.specs.Ranks.{level_of, set_of, rank, solver_table}
use Rattle.machine.specs.Table.{blank, entry, covers, IsTable}
use Rattle.machine.specs.Lines.{passes_each}
use Rattle.machine.specs.Verdict.{HasStarts, start_covered, lines_verdict}
use Rattle.theory.specs.Figure2.{Set, Cor, approx, UnderX, Innermost, row, figure2, IterateY, FigureGoal, FigureX}
use Rattle.machine.specs.declared.Verdict.TheVariants.{Carried, NotCarried}

module _ (p : Pair) where
  -- every pair of S is one of R
  abbrev pub Within : List ℕ → List ℕ → Type 0
  Within S R = (c a : ℕ) → c < n_c p → a < n_a p → mem p S c a ≡ true → mem p R c a ≡ true

  -- each pair of X is matched and meets the rule of X(l, k), over goals G and the level B
  abbrev pub MeetsRule : List ℕ → List ℕ → ℕ → List ℕ → Type 0
  MeetsRule G B k X = (c a : ℕ) → c < n_c p → a < n_a p → mem p X c a ≡ true → (matched p c a ≡ true) × (in_x p G B k X c a ≡ true)

  -- 1. "the largest X in which each pair is a goal, or steps into level l − 1, or has c outside rig set k and steps into X"
  abbrev pub XIsLargest : Type 0
  XIsLargest = (G B : List ℕ) (k : ℕ) → MeetsRule G B k (x_over p G B k) × ((U : List ℕ) → MeetsRule G B k U → Within U (x_over p G B k))

  -- levels grow, and level l − 1 lies within every X(l, k)
  abbrev pub LevelsGrow : Type 0
  LevelsGrow = (G : List ℕ) (l : ℕ) → Within (level p G l) (level p G (suc l)) × ((k : ℕ) → Within (level p G l) (x_set p G (suc l) k))

  -- the levels stop by l = P, and their union is `levels`
  abbrev pub LevelsStop : Type 0
  LevelsStop = (G : List ℕ) → ((l : ℕ) → Within (level p G l) (level p G (pairs p))) × Within (level p G (pairs p)) (levels p G) × Within (levels p G) (level p G (pairs p))

  -- "Z1 .. Zn is the largest family such that each Zj is the union of its levels"
  abbrev pub FamilyIsFixed : Type 0
  FamilyIsFixed = (j : ℕ) → j < sets_a p
      → Within (get_or (family p) j []) (levels p (goals p (family p) j)) × Within (levels p (goals p (family p) j)) (get_or (family p) j [])

  abbrev pub FamilyIsLargest : Type 0
  FamilyIsLargest = (W : List (List ℕ)) → ((j : ℕ) → j < sets_a p → Within (get_or W j []) (levels p (goals p W j)))
      → (j : ℕ) → j < sets_a p → Within (get_or W j []) (get_or (family p) j [])

  -- it is reached after at most n × P turns, and the turn after that changes nothing
  abbrev pub FamilyIsReached : Type 0
  FamilyIsReached = (t : ℕ) × (t ≤ sets_a p * pairs p) × (family_after p t ≡ family p) × (turn p (family p) ≡ family p)

  -- Z is the value of document 000's figure 2, section by section
  abbrev pub FamilyIsFigure2 : Type 0
  FamilyIsFigure2 = (j c a : ℕ) → j < sets_a p → c < n_c p → a < n_a p → figure2 p j c a ↔ (mem p (get_or (family p) j []) c a ≡ true)

  -- the predicates of a family
  abbrev pub PairsOf : List (List ℕ) → ℕ → Set
  PairsOf Z j c a = mem p (get_or Z j []) c a ≡ true

  -- the families after the turns are the iterates of the vector, the levels those of μY, and the rounds those of νX; each X(l + 1, k) is
  -- the innermost greatest fixpoint over iterate l of μY
  abbrev pub TurnsAreIterates : Type 0
  TurnsAreIterates = (t j c a : ℕ) → j < sets_a p → c < n_c p → a < n_a p
      → approx p (row p) (λ j. Cor p) t j c a ↔ (mem p (get_or (family_after p t) j []) c a ≡ true)

  abbrev pub LevelsAreIterates : Type 0
  LevelsAreIterates = (Z : List (List ℕ)) (j l c a : ℕ) → j < sets_a p → c < n_c p → a < n_a p
      → IterateY p (PairsOf Z) j l c a ↔ (mem p (level p (goals p Z j) l) c a ≡ true)

  abbrev pub RoundsAreIterates : Type 0
  RoundsAreIterates = (Z : List (List ℕ)) (j l k i c a : ℕ) → j < sets_a p → c < n_c p → a < n_a p
      → approx p (UnderX p (PairsOf Z) j (IterateY p (PairsOf Z) j l) k) (Cor p) i c a
      ↔ (mem p (x_after p (goals p Z j) (level p (goals p Z j) l) k i) c a ≡ true)

  abbrev pub XIsInnermost : Type 0
  XIsInnermost = (Z : List (List ℕ)) (j l k c a : ℕ) → j < sets_a p → c < n_c p → a < n_a p
      → Innermost p (PairsOf Z) j (IterateY p (PairsOf Z) j l) k c a ↔ (mem p (x_set p (goals p Z j) (suc l) k) c a ≡ true)

  -- 2. ranks: r = (l − 1) × m + k with the least l, then the least k (counted from 0 here), for which In l k holds
  pub record IsFirst (In : ℕ → ℕ → Type 0) (r l k : ℕ) : Type 0 where
    pub l_low : 0 < l
    pub l_high : l ≤ pairs p
    pub k_high : k < sets_c p
    pub is_r : r ≡ (l - 1) * sets_c p + k + 1
    pub is_in : In l k
    pub first : (l' k' : ℕ) → 0 < l' → k' < sets_c p → In l' k' → (l < l') ⊎ ((l ≡ l') × (k ≤ k'))

  -- over document 01's sets: "0 for a goal; else r = (l − 1) × m + k with the least l, then the least k, that has the pair in
  -- X(l, k); else blank"
  abbrev pub RankOfGoals : Type 0
  RankOfGoals = (j c a : ℕ) → j < sets_a p → c < n_c p → a < n_a p → (rank p j c a ≡ 0) ↔ (mem p (goals p (family p) j) c a ≡ true)

  abbrev pub RankIsBlank : Type 0
  RankIsBlank = well_formed p ≡ true → (j c a : ℕ) → j < sets_a p → c < n_c p → a < n_a p
      → (rank p j c a ≡ blank) ↔ (mem p (get_or (family p) j []) c a ≡ false)

  abbrev pub IsPlace : List ℕ → (c a r l k : ℕ) → Type 0
  IsPlace G c a = IsFirst (λ l k. mem p (x_set p G l k) c a ≡ true)

  abbrev pub RankIsFirst : Type 0
  RankIsFirst = (j c a : ℕ) → j < sets_a p → c < n_c p → a < n_a p → mem p (goals p (family p) j) c a ≡ false → mem p (get_or (family p) j []) c a ≡ true
      → (l : ℕ) × (k : ℕ) × IsPlace (goals p (family p) j) c a (rank p j c a) l k

  -- the same over the formula of document 000 itself: 0 exactly where J_j ∧ ⊗ Z_{j+1} holds,
  abbrev pub RankIsGoal : Type 0
  RankIsGoal = (j c a : ℕ) → j < sets_a p → c < n_c p → a < n_a p → (rank p j c a ≡ 0) ↔ FigureGoal p j c a

  -- blank exactly outside figure 2,
  abbrev pub RankIsFigure2 : Type 0
  RankIsFigure2 = well_formed p ≡ true → (j c a : ℕ) → j < sets_a p → c < n_c p → a < n_a p
      → ((rank p j c a ≡ blank → ⊥) ↔ figure2 p j c a) × ((rank p j c a ≡ blank) ↔ (figure2 p j c a → ⊥))

  -- and else from the least l, then the least k, that has the pair in νX over iterate l − 1 of μY
  abbrev pub IsRank : (j c a r l k : ℕ) → Type 0
  IsRank j c a = IsFirst (λ l k. FigureX p j l k c a)

  abbrev pub RankIsLeast : Type 0
  RankIsLeast = (j c a : ℕ) → j < sets_a p → c < n_c p → a < n_a p → figure2 p j c a → (FigureGoal p j c a → ⊥)
      → (l : ℕ) × (k : ℕ) × IsRank j c a (rank p j c a) l k

  -- "Ranks are at most m × P."
  abbrev pub RankIsBounded : Type 0
  RankIsBounded = (j c a : ℕ) → j < sets_a p → c < n_c p → a < n_a p → (rank p j c a ≡ blank) ⊎ (rank p j c a ≤ sets_c p * pairs p)

  -- the table holds the ranks, entry by entry
  abbrev pub TableHoldsRanks : Type 0
  TableHoldsRanks = (j c a : ℕ) → j < sets_a p → c < n_c p → a < n_a p → entry p (solver_table p) j c a ≡ rank p j c a

  -- 3. the solver's table passes each line
  abbrev pub SolverTablePasses : Type 0
  SolverTablePasses = well_formed p ≡ true → passes_each p (solver_table p) ≡ true

  -- 4. it covers whatever any passing table covers; T is here any list, of any length
  abbrev pub SolverTableCovers : Type 0
  SolverTableCovers = well_formed p ≡ true → (T : List ℕ) → passes_each p T ≡ true → (j c a : ℕ) → j < sets_a p → c < n_c p → a < n_a p
      → covers p T j c a ≡ true → covers p (solver_table p) j c a ≡ true

  -- 5. the check says Carried of the solver's table exactly when some table passes each line and has the start pairs
  abbrev pub CarriedExactly : Type 0
  CarriedExactly = well_formed p ≡ true
      → ((n : ℕ) × (lines_verdict p (solver_table p) ≡ Ok (Carried n))) ↔ ((T : List ℕ) × IsTable p T × (passes_each p T ≡ true) × HasStarts p T)

-- NotCarried's c is the lowest start state that lacks a partner
pub record IsLowest (p : Pair) (T : List ℕ) (c : ℕ) : Type 0 where
  pub state : c < n_c p
  pub is_start : starts p.concrete c ≡ true
  pub lacks : start_covered p T c ≡ false
  pub lower : (d : ℕ) → d < c → starts p.concrete d ≡ true → start_covered p T d ≡ true

abbrev pub NotCarriedIsLowest : Type 0
NotCarriedIsLowest = (p : Pair) (T : List ℕ) (c n : ℕ) → lines_verdict p T ≡ Ok (NotCarried c n) → IsLowest p T c

-- l and k come back from r
abbrev pub PlaceComesBack : Type 0
PlaceComesBack = (m l k : ℕ) → 0 < l → k < m → (level_of m ((l - 1) * m + k + 1) ≡ l) × (set_of m ((l - 1) * m + k + 1) ≡ k)
