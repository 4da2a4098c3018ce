-- What the plain reading of a line steps into, and its answer as document 01 tells it.
use Rattle.std.specs.Prelude.{Bool, List, ℕ, eqb, leb, ltb}
use Rattle.mask.specs.Bounded.{every}
use Rattle.mask.specs.Logic.{not, and, or}
use Rattle.machine.specs.declared.Pair.{Pair}
use Rattle.machine.specs.Lines.{passes}
use Rattle.machine.specs.Machines.{matched, n_a, n_c, sets_c}
use Rattle.machine.specs.Ranks.{level_of}
use Rattle.machine.specs.Table.{blank, entry}
use Rattle.brute.specs.declared.lines.Target.{Target}
use Rattle.brute.specs.declared.lines.Target.TheVariants.{NonBlank, Lower, AtMost}

-- an entry e is one that the line asks for, m being the number of rig sets
unfoldable pub hit : Target → ℕ → ℕ → Bool
hit NonBlank m e = not (eqb e blank)
hit (Lower l) m e = or (eqb e 0) (ltb (level_of m e) l)
hit (AtMost r) m e = leb e r

-- the matched pairs whose entry in section j is one
unfoldable pub in_target : Pair → List ℕ → Target → ℕ → ℕ → ℕ → Bool
in_target p T t j c a = and (matched p c a) (hit t (sets_c p) (entry p T j c a))

-- what the searches for the first entry that fails look for: a state, a row, a section
module _ (p : Pair) (T : List ℕ) where
  abbrev pub fails : ℕ → ℕ → ℕ → Bool
  fails j c a = not (passes p T j c a)

  abbrev pub row_fails : ℕ → ℕ → Bool
  row_fails j c = not (every (n_a p) (passes p T j c))

  abbrev pub section_fails : ℕ → Bool
  section_fails j = not (every (n_c p) (λ c. every (n_a p) (passes p T j c)))
