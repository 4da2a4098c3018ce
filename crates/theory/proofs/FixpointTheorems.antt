-- A proof of each statement about fixpoints, by name.
use Rattle.std.specs.Prelude.{List, ℕ}
use Rattle.machine.specs.declared.Pair.{Pair}
use Rattle.machine.specs.Machines.{pairs}
use Rattle.machine.specs.Game.{goals, level}
use Rattle.theory.specs.Statements.{XIsLargest, LevelsGrow, LevelsStop, FamilyIsFixed, FamilyIsLargest, FamilyIsReached, FamilyIsFigure2}
use Rattle.theory.specs.Figure2.{IterateY}
use Rattle.theory.specs.Statements.{PairsOf, TurnsAreIterates, LevelsAreIterates, RoundsAreIterates, XIsInnermost}
use Rattle.theory.specs.GameLaws.{Within_trans, in_x_at, in_x_of, x_over_is, level_grows, level_within_x, level_levels, levels_level}
use Rattle.theory.specs.FamilyLaws.{family_is, family_reached, family_stays}
use Rattle.theory.proofs.Figure2Laws.{IsFam, figure2_is, turns_are, levels_are, rounds_are, x_is_nu}

module _ (p : Pair) where
  pub x_is_largest : XIsLargest p
  x_is_largest G B k =
      let x = x_over_is p G B k in (
        λ c a hc ha t. (let q = x.at c a hc ha t in (q.0, in_x_of p G B k _ c a q.1)),
        λ U h. x.largest U (λ c a hc ha t. let q = h c a hc ha t in (q.0, in_x_at p G B k U c a q.1)),
      )

  pub levels_grow : LevelsGrow p
  levels_grow G l = (level_grows p G l, level_within_x p G l)

  pub levels_stop : LevelsStop p
  levels_stop G =
      (λ l. Within_trans p _ _ _ (level_levels p G l) (levels_level p G), level_levels p G (pairs p), levels_level p G)

  pub family_is_fixed : FamilyIsFixed p
  family_is_fixed j hj = ((family_is p).at j hj, (family_is p).of j hj)

  pub family_is_largest : FamilyIsLargest p
  family_is_largest = (family_is p).largest

  pub family_is_reached : FamilyIsReached p
  family_is_reached = let q = family_reached p in (q.0, q.1, q.2, family_stays p)

  -- ---- document 000's figure 2
  pub family_is_figure2 : FamilyIsFigure2 p
  family_is_figure2 j c a hj hc ha = figure2_is p j hj c a hc ha

  own : (Z : List (List ℕ)) → IsFam p (PairsOf p Z) Z
  own Z j hj c a hc ha = (λ t. t, λ t. t)

  pub turns_are_iterates : TurnsAreIterates p
  turns_are_iterates t j c a hj hc ha = turns_are p t j hj c a hc ha

  pub levels_are_iterates : LevelsAreIterates p
  levels_are_iterates Z j l c a hj hc ha = levels_are p (PairsOf p Z) Z (own Z) j hj l c a hc ha

  pub rounds_are_iterates : RoundsAreIterates p
  rounds_are_iterates Z j l k i c a hj hc ha =
      rounds_are p (PairsOf p Z) Z (own Z) j hj (IterateY p (PairsOf p Z) j l) (level p (goals p Z j) l) (levels_are p (PairsOf p Z) Z (own Z) j hj l) k i c a hc ha

  pub x_is_innermost : XIsInnermost p
  x_is_innermost Z j l k c a hj hc ha = x_is_nu p (PairsOf p Z) Z (own Z) j hj l k c a hc ha
