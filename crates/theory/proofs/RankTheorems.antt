-- A proof of each statement about ranks, the solver's table and the check's answer, by name.
use Rattle.std.proofs.Math.Logic.Iff
use Rattle.std.proofs.Math.Logic.Dec
use Rattle.std.proofs.Math.Decide.{ℕ_discrete}
use Rattle.mask.specs.LogicLaws.{refute}
use Rattle.machine.specs.declared.Pair.{Pair}
use Rattle.machine.specs.WellFormedLaws.{well_pair, well_is_valid}
use Rattle.machine.specs.Ranks.{rank, solver_table}
use Rattle.machine.specs.Table.{blank, covered_count}
use Rattle.theory.specs.Statements.{RankOfGoals, RankIsBlank, RankIsFirst, RankIsGoal, RankIsFigure2, RankIsLeast, RankIsBounded, TableHoldsRanks}
use Rattle.theory.specs.Statements.{SolverTablePasses, SolverTableCovers, CarriedExactly, NotCarriedIsLowest, PlaceComesBack}
use Rattle.theory.specs.FamilyLaws.{family_is}
use Rattle.theory.proofs.Figure2Laws.{figure2_is, figure_goal_is, figure_x_is}
use Rattle.theory.specs.TowerLaws.{place_back}
use Rattle.theory.specs.RankLaws.{first_same, goal_zero, rank_placed, rank_bounded, table_rank, table_is, section_ranked_lem, rank_covered, rank_blank}
use Rattle.theory.specs.PassLaws.{table_passes}
use Rattle.theory.specs.CoverLaws.{table_covers}
use Rattle.theory.specs.CarriedLaws.{said_lowest, said_starts, starts_said, starts_kept}

module _ (p : Pair) where
  pub rank_of_goals : RankOfGoals p
  rank_of_goals j c a hj hc ha = goal_zero p (section_ranked_lem p j c a)

  pub rank_is_first : RankIsFirst p
  rank_is_first j c a hj hc ha g t = rank_placed p hc ha g ((family_is p).at j hj c a hc ha t) (section_ranked_lem p j c a)

  pub rank_is_bounded : RankIsBounded p
  rank_is_bounded j c a hj hc ha = rank_bounded p (section_ranked_lem p j c a)

  pub table_holds_ranks : TableHoldsRanks p
  table_holds_ranks = table_rank p

  pub rank_is_blank : RankIsBlank p
  rank_is_blank well = rank_blank p (well_pair p well)

  -- ---- over document 000's figure 2
  pub rank_is_goal : RankIsGoal p
  rank_is_goal j c a hj hc ha = Iff.trans (rank_of_goals j c a hj hc ha) (Iff.symm (figure_goal_is p j hj c a hc ha))

  pub rank_is_figure2 : RankIsFigure2 p
  rank_is_figure2 well j c a hj hc ha =
      let covered = Iff.trans (rank_covered p (well_pair p well) j c a hj hc ha) (Iff.symm (figure2_is p j hj c a hc ha)) in
      (covered, Iff.trans (Iff.symm (Dec.not-not (ℕ_discrete (rank p j c a) blank))) (Iff.not covered))

  pub rank_is_least : RankIsLeast p
  rank_is_least j c a hj hc ha t g =
      let q = rank_is_first j c a hj hc ha (refute _ (λ u. g ((figure_goal_is p j hj c a hc ha).1 u))) ((figure2_is p j hj c a hc ha).0 t) in
      (q.0, q.1, first_same p (λ l k pos. Iff.symm (figure_x_is p j hj l k pos c a hc ha)) q.2)

  -- ---- the solver's table and the check's answer
  pub solver_table_passes : SolverTablePasses p
  solver_table_passes well = table_passes p (well_pair p well)

  pub solver_table_covers : SolverTableCovers p
  solver_table_covers well T t = table_covers p (well_pair p well) T t

  pub carried_exactly : CarriedExactly p
  carried_exactly well =
      let passed = solver_table_passes well in (
        λ q. (solver_table p, table_is p (well_pair p well), passed, said_starts p (solver_table p) q.0 q.1),
        λ q. (
          covered_count p (solver_table p),
          starts_said p (solver_table p) (well_is_valid p well) passed (starts_kept p q.0 (solver_table p)
              (λ c a hc ha u. solver_table_covers well q.0 q.2 0 c a (well_pair p well).abstraction.sets_low hc ha u) q.3),
        ),
      )

pub not_carried_is_lowest : NotCarriedIsLowest
not_carried_is_lowest p T c n = said_lowest p T c n

pub place_comes_back : PlaceComesBack
place_comes_back = place_back
