use Rattle.std.specs.Prelude.{◌≡◌}
use Rattle.mask.specs.Tables.{front}
use Rattle.brute.specs.RankingLaws.{mark_at}
use Rattle.brute.proofs.ranking.mark.Given as goal

abbrev pub invariant-loop-e : goal.invariant-loop-e
invariant-loop-e l = l.rank-items ≡ front l.e (mark_at l.set l.r l.initial.rank-items) l.initial.rank-items
