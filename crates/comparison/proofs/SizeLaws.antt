-- How great the numbers of a well-formed pair are.
use Rattle.std.specs.Prelude.{◌*◌, ◌≤◌}
use Rattle.std.proofs.Common.{Fits, w8, arith}
use Rattle.machine.specs.declared.Formed.{Formed}
use Rattle.machine.specs.Machines.{n_a, n_c, pairs, sets_a, sets_c}
use Rattle.machine.specs.Table.{table_room}
use Rattle.machine.specs.WellFormedLaws.{WellPair, well_pair, pairs_small, ranks_small, entries_small}

module _ (f : Formed) where
  well : WellPair f.pair.now
  well = well_pair f.pair.now f.well

  pub pairs_in : pairs f.pair.now ≤ 4096
  pairs_in = pairs_small _ well

  pub ranks_in : sets_c f.pair.now * pairs f.pair.now ≤ 32768
  ranks_in = ranks_small _ well

  pub entries_in : sets_a f.pair.now * pairs f.pair.now ≤ table_room
  entries_in = entries_small _ well

  pub concretes_fit : Fits w8 (n_c f.pair.now)
  concretes_fit = omega (arith, well.concrete.states_high)

  pub abstractions_fit : Fits w8 (n_a f.pair.now)
  abstractions_fit = omega (arith, well.abstraction.states_high)

  pub sections_fit : Fits w8 (sets_a f.pair.now)
  sections_fit = omega (arith, well.abstraction.sets_high)

pub ruleset sizes = (pairs_in, ranks_in, entries_in)
