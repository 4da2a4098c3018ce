-- What of a table is compared, as the definitions of ranks have it.
use Rattle.std.specs.Prelude.{Bool, true, false}
use Rattle.brute.specs.declared.ranking.Compared.{Compared}
use Rattle.brute.specs.declared.ranking.Compared.TheVariants.{Ranks, Covered}

-- the ranks have to be exact
abbrev pub is_exact : Compared → Bool
is_exact Ranks = true
is_exact Covered = false
