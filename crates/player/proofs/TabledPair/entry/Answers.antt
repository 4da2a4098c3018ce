-- The entry's place is the definition's, and lies within the table.
use mathlib.Core.Path.{◌≡◌, ap}
use Prim.Native.Nat.{ℕ, ◌<◌}
use native.Mathlib.Omega.{arith}
use lib.ListN.{get_or}
use Rattle.machine.specs.Machines.{n_c, n_a}
use Rattle.machine.specs.Table.{table_room, entry_index, entry}
use Rattle.player.specs.RowLaws.{index_is, index_lt}
use Rattle.player.proofs.TabledPair.entry.Goals as goal
use Rattle.player.proofs.TabledPair.entry.Goals.{After-entry_index}

place : (c : After-entry_index) → let x = c.args in let p = x.self.now.pair.now in c.entry_index.result ≡ entry_index (n_c p) (n_a p) x.j x.c x.a
place c =
    let x = c.args in
    let w = x.self.now.is_tabled.well in
    index_is x.self.now.pair.now w _ x.j x.c c.requires.0 c.requires.1.0 x.a c.entry_index.ensures (omega (arith, w.abstraction.states_high, c.requires.1.1))

place_lt : (c : After-entry_index) → c.entry_index.result < table_room
place_lt c =
    let x = c.args in
    index_lt x.self.now.pair.now x.self.now.is_tabled.well _ x.j x.c c.requires.0 c.requires.1.0 x.a (place c) c.requires.1.1

pub offset_bounds-self-entry_index : goal.offset_bounds-self-entry_index
offset_bounds-self-entry_index c = omega (arith, place_lt (goal.at.offset_bounds-self-entry_index c).After-entry_index)

pub bounds-self-entry_index : goal.bounds-self-entry_index
bounds-self-entry_index c = omega (arith, place_lt (goal.at.bounds-self-entry_index c).After-entry_index, c.args.self.now.is_tabled.long)

pub returns : goal.returns
unfolding entry
returns c = ap (λ (i : ℕ). get_or c.args.self.now.table.now i 0) (place (goal.at.returns c).After-entry_index)
