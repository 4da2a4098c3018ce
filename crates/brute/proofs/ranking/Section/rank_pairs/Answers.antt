-- The invariant: the pairs of the first i sets have their ranks.
use mathlib.Core.Path.{◌∙◌, ◌≡◌, ap, refl}
use Prim.Native.Nat.{◌*◌, ℕ}
use native.Mathlib.Omega.{arith}
use lib.ListN.{length-replicate}
use borrow.Author.Rules.{rules}
use Rattle.machine.specs.Machines.{pairs, sets_c}
use Rattle.machine.specs.WellFormedLaws.{pairs_small, ranks_small}
use Rattle.brute.specs.Ranking.{pair_room}
use Rattle.brute.specs.RankingLaws.{ranked_start, ranked_step}
use Rattle.brute.proofs.WellLaws.{well_of}
use Rattle.brute.proofs.ranking.Section.rank_pairs.Goals as goal
use Rattle.brute.proofs.ranking.Section.rank_pairs.Goals.{After-pairs-pairs}

-- how many ranks there are
most : (c : After-pairs-pairs) → let p = c.args.self.now.lifted.pair.now in sets_c p * c.pairs-pairs.result ≡ sets_c p * pairs p
most c = ap (λ (n : ℕ). sets_c c.args.self.now.lifted.pair.now * n) c.pairs-pairs.ensures

pub overflow_mul-i-end : goal.overflow_mul-i-end
overflow_mul-i-end c = omega (arith, most c, ranks_small _ (well_of c.args.self.now.lifted))

pub loop-i-init : goal.loop-i-init
loop-i-init c = let x = c.args in (search rules, refl, ranked_start x.self.now.lifted.pair.now x.self.now.lifted.table.now x.self.now.j x.ranks.now)

pub put_largest-requires : goal.put_largest-requires
put_largest-requires c =
    (rw c.pairs-pairs.ensures at c.loop-i-test.true, rw (length-replicate {A = ℕ} pair_room 0) (pairs_small _ (well_of c.args.self.now.lifted)))

pub overflow_cast-i : goal.overflow_cast-i
overflow_cast-i c = omega (arith, most (goal.at.overflow_cast-i c).After-pairs-pairs, ranks_small _ (well_of c.args.self.now.lifted))

pub loop-i-preserved : goal.loop-i-preserved
loop-i-preserved c =
    let x = c.args in
    let l = c.loop-i in (
      search rules,
      c.mark.auto.ranks ∙ l.invariant.1,
      ranked_step x.self.now.lifted.pair.now x.self.now.lifted.table.now x.self.now.j x.ranks.now l.i l.invariant.2 c.put_largest.ensures (rw c.pairs-pairs.ensures at c.mark.ensures),
    )
