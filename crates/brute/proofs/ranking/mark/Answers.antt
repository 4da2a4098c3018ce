-- The invariant: the first e entries have their rank, and the others are as they were.
use Rattle.std.proofs.Common.{arith, sym, ◌∙◌}
use Rattle.mask.specs.FrontLaws.{front_none}
use Rattle.std.specs.Prelude.{take}
use Rattle.std.proofs.lemmas.List.{set-get_or}
use Rattle.brute.specs.RankingLaws.{mark_done, mark_outside, mark_ranked, mark_store}
use Rattle.brute.proofs.ranking.mark.Goals.{else-value_at-via-else-value_at, else-value_at-via-then-value_at+else-rank}
use Rattle.brute.proofs.ranking.mark.Goals as goal
use Rattle.brute.proofs.ranking.mark.Goals.{else-value_at, then-value_at+then-rank}

pub loop-e-init : goal.loop-e-init
loop-e-init c = front_none _ _

pub loop-e-preserved : goal.loop-e-preserved
loop-e-preserved c =
    let x = c.args in
    let d = c.loop-e.invariant in
    let h = c.loop-e-test.true in
    elim c.if-value_at.branch [
      | then-value_at+then-rank w ↦ mark_store x.set.now x.r (take x.n x.ranks.now) d h w.rank-items-is (λ e. w.if-value_at.true (c.value_at.ensures ∙ e)) w.if-rank.true
      | else-value_at w ↦ elim w.else-value_at.branch [
        | else-value_at-via-then-value_at+else-rank v ↦ mark_ranked x.set.now x.r (take x.n x.ranks.now) d h (w.rank-items-is ∙ v.rank-items-is ∙ set-get_or c.loop-e.rank-items c.loop-e.e 0) v.if-rank.false
        | else-value_at-via-else-value_at v ↦ mark_outside x.set.now x.r (take x.n x.ranks.now) d h (w.rank-items-is ∙ v.rank-items-is ∙ set-get_or c.loop-e.rank-items c.loop-e.e 0) (sym c.value_at.ensures ∙ v.if-value_at.false)
      ]
    ]

pub returns : goal.returns
returns c = mark_done _ _ c.args.ranks.now c.args.n c.requires c.loop-e.invariant (omega arith)
