-- Counts, and their sums modulo 2^64.
use Rattle.std.specs.Prelude.{ℕ, zero, suc, ◌+◌, ◌%◌, ◌^◌, Bool, cond}
use Rattle.comparison.specs.declared.tally.Tally.{Tally}

-- fifteen counts, in the order of the fields
abbrev pub counts : ℕ → ℕ → ℕ → ℕ → ℕ → ℕ → ℕ → ℕ → ℕ → ℕ → ℕ → ℕ → ℕ → ℕ → ℕ → Tally
counts pairs formed solved carried tables passing carrying empty lassos runs turns finished lookups held differing = record {
  pairs = pairs;
  formed = formed;
  solved = solved;
  carried = carried;
  tables = tables;
  passing = passing;
  carrying = carrying;
  empty = empty;
  lassos = lassos;
  runs = runs;
  turns = turns;
  finished = finished;
  lookups = lookups;
  held = held;
  differing = differing;
}

unfoldable pub nothing : Tally
nothing = counts 0 0 0 0 0 0 0 0 0 0 0 0 0 0 0

-- x + y modulo 2^64
unfoldable pub sum64 : ℕ → ℕ → ℕ
sum64 x y = (x + y) % 2 ^ 64

unfoldable pub plus : Tally → Tally → Tally
plus x y = record {
  pairs = sum64 x.pairs y.pairs;
  formed = sum64 x.formed y.formed;
  solved = sum64 x.solved y.solved;
  carried = sum64 x.carried y.carried;
  tables = sum64 x.tables y.tables;
  passing = sum64 x.passing y.passing;
  carrying = sum64 x.carrying y.carrying;
  empty = sum64 x.empty y.empty;
  lassos = sum64 x.lassos y.lassos;
  runs = sum64 x.runs y.runs;
  turns = sum64 x.turns y.turns;
  finished = sum64 x.finished y.finished;
  lookups = sum64 x.lookups y.lookups;
  held = sum64 x.held y.held;
  differing = sum64 x.differing y.differing;
}

-- the counts f 0, .., f (n - 1) together
unfoldable pub total : ℕ → (ℕ → Tally) → Tally
total zero f = nothing
total (suc n) f = plus (total n f) (f n)

-- one pair, with its refusals compared
unfoldable pub of_pair : Bool → Tally
of_pair agrees = counts 1 0 0 0 0 0 0 0 0 0 0 0 0 0 (cond agrees 0 1)

-- the solver's table of one pair
unfoldable pub of_solution : Bool → Bool → Tally
of_solution carried agrees = counts 0 1 1 (cond carried 1 0) 0 0 0 0 0 0 0 0 0 0 (cond agrees 0 1)

-- one well-formed pair that the solver refuses
unfoldable pub of_unsolved : Tally
of_unsolved = counts 0 1 0 0 0 0 0 0 0 0 0 0 0 0 0

-- one table
unfoldable pub of_table : Bool → Bool → Bool → Bool → Tally
of_table passing carried empty agrees = counts 0 0 0 0 1 (cond passing 1 0) (cond carried 1 0) (cond empty 1 0) 0 0 0 0 0 0 (cond agrees 0 1)

-- one lasso
unfoldable pub of_lasso : Bool → Bool → Tally
of_lasso runs agrees = counts 0 0 0 0 0 0 0 0 1 (cond runs 1 0) 0 0 0 0 (cond agrees 0 1)

-- one comparison that has no count of its own
unfoldable pub of_test : Bool → Tally
of_test agrees = counts 0 0 0 0 0 0 0 0 0 0 0 0 0 0 (cond agrees 0 1)

-- one turn
unfoldable pub of_turn : Bool → Bool → Tally
of_turn finished agrees = counts 0 0 0 0 0 0 0 0 0 0 1 (cond finished 1 0) 0 0 (cond agrees 0 1)

-- one look-up
unfoldable pub of_look_up : Bool → Bool → Tally
of_look_up held agrees = counts 0 0 0 0 0 0 0 0 0 0 0 0 1 (cond held 1 0) (cond agrees 0 1)
