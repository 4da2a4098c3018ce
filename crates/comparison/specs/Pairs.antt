-- All that is compared of a pair, and of a series of pairs.
use Rattle.std.specs.Prelude.{ℕ, ◌+◌, ◌*◌, Bool, true, false, cond, List, length, Option, Some, None, ◌==◌}
use Rattle.mask.specs.Logic.{not, and}
use Rattle.machine.specs.declared.Pair.{Pair}
use Rattle.machine.specs.Machines.{n_c, sets_c, pairs}
use Rattle.machine.specs.WellFormed.{is_valid, well_formed, nonempty_validity}
use Rattle.machine.specs.Table.{entries}
use Rattle.solver.specs.Solver.{solve_validity, solved_table}
use Rattle.brute.specs.Numbers.{numbered_pair}
use Rattle.brute.specs.Lifting.{lifted_table}
use Rattle.brute.specs.Ranking.{table_ranked}
use Rattle.comparison.specs.declared.pairs.Series.{Series}
use Rattle.comparison.specs.declared.pairs.Trial.{Trial}
use Rattle.comparison.specs.declared.tables.Tables.{Tables}
use Rattle.comparison.specs.declared.tables.Tables.TheVariants.{Every, Altered}
use Rattle.comparison.specs.declared.tally.Tally.{Tally}
use Rattle.comparison.specs.Answers.{same_answer, same_unit}
use Rattle.comparison.specs.Tallies.{nothing, plus, total, of_pair, of_solution, of_unsolved}
use Rattle.comparison.specs.Tables.{zeros, within, table_tally, tried_table}
use Rattle.comparison.specs.Lassos.{lassos_tally}
use Rattle.comparison.specs.Turns.{turns_tally, stopped_tally}

-- how many of all tables are Carried, where all were tried
unfoldable pub carried_of : Tables → ℕ → Option ℕ
carried_of Every n = Some n
carried_of Altered n = None

-- where so many of all tables are Carried, the solver's is exactly if some are
unfoldable pub carried_fits : Tally → Option ℕ → Bool
carried_fits own (Some n) = cond (own.carrying == 0) (n == 0) (not (n == 0))
carried_fits own None = true

-- the solver's table passes, and where every table was tried, it is Carried exactly if some table is
unfoldable pub verdict_fits : Tally → Option ℕ → Bool
verdict_fits own carrying = and (not (own.passing == 0)) (carried_fits own carrying)

-- what is said of the solver's table S fits, and it covers what the lifted table L covers, and no more, and has the ranks
unfoldable pub solution_agrees : Pair → ℕ → Bool → List ℕ → List ℕ → Bool
solution_agrees p n fits L S = and fits (and (within n L S) (and (within n S L) (table_ranked p true L S)))

-- the solver's table S of n entries beside the other algorithm's
unfoldable pub solution_tally : Pair → ℕ → Option ℕ → List ℕ → Tally
solution_tally p n carrying S =
    let own = table_tally p n S S in
    of_solution (not (own.carrying == 0)) (solution_agrees p n (verdict_fits own carrying) (lifted_table p zeros) S)

module _ (t : Trial) where
  -- the tables of a pair, S being the solver's or the lifted one
  unfoldable pub tables_tally : Pair → List ℕ → Tally
  tables_tally p S = total t.tables (λ x. table_tally p (entries p) S (tried_table t.which (sets_c p * pairs p + 2) (entries p) S x zeros))

  -- a well-formed pair: if it was solved S is the solver's table
  unfoldable pub formed_tally : Pair → Bool → List ℕ → Tally
  formed_tally p solved S =
      let tables = tables_tally p S in
      plus (plus tables (cond solved (solution_tally p (entries p) (carried_of t.which tables.carrying) S) of_unsolved)) (lassos_tally p S (n_c p) t.stem)

  -- a pair that the solver refuses: if it is well formed, and so has an empty set, the lifted table stands for the solver's
  unfoldable pub unsolved_tally : Pair → Tally
  unsolved_tally p = cond (well_formed p) (formed_tally p false (lifted_table p zeros)) nothing

  -- any pair
  unfoldable pub pair_tally : Pair → Tally
  pair_tally p =
      let v = solve_validity p (length zeros) in
      let rule = nonempty_validity p in
      let tried = of_pair (same_answer same_unit v rule) in
      let S = solved_table p zeros in
      let solved = plus (plus tried (turns_tally p rule t.row t.families S)) (formed_tally p true S) in
      cond (is_valid v) solved (plus (plus tried (stopped_tally p rule)) (unsolved_tally p))

module _ (s : Series) where
  -- the pairs of concrete machine number x
  unfoldable pub row_tally : ℕ → Tally
  row_tally x = total s.abstractions.count (λ i. pair_tally s.trial (numbered_pair s.concrete s.abstraction s.hidden x (i * s.abstractions.step)))

  -- all pairs of the series
  unfoldable pub series_tally : Tally
  series_tally = total s.concretes.count (λ i. row_tally (i * s.concretes.step))
