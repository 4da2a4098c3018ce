-- A family of sets of pairs as rows: 7 × 64, row j × 64 + c. Any 448 masks are such rows.
use Rattle.std.specs.Prelude.{cond, List, [], ℕ, ◌+◌, ◌*◌, ◌/◌, ◌%◌, eqb, get_or}
use Rattle.mask.specs.Tables.{table}
use Rattle.machine.specs.declared.Pair.{Pair}
use Rattle.machine.specs.Machines.{sets_a}
use Rattle.machine.specs.Game.{pair_set, mem, turn}

-- the rows of a family, section by section
unfoldable pub flat_of : List (List ℕ) → List ℕ
flat_of Z = table 448 (λ e. get_or (get_or Z (e / 64) []) (e % 64) 0)

-- the rows of section j of a family
unfoldable pub section_of : List ℕ → ℕ → List ℕ
section_of F j = table 64 (λ c. get_or F (j * 64 + c) 0)

-- the family that rows hold: of each section the matched pairs of the machines; a stray bit counts as struck out
unfoldable pub family_in : Pair → List ℕ → List (List ℕ)
family_in p F = table (sets_a p) (λ j. pair_set p (mem p (section_of F j)))

-- Document 02, No. 6: "a turn makes every section's set afresh from the family that the turn before left"
unfoldable pub turn_rows : Pair → List ℕ → List ℕ
turn_rows p F = flat_of (turn p (family_in p F))

-- the rows of a family, with those of a set in section j
unfoldable pub put_section : List ℕ → ℕ → List ℕ → List ℕ
put_section F j S = table 448 (λ e. cond (eqb (e / 64) j) (get_or S (e % 64) 0) (get_or F e 0))
