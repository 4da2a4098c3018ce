use Prim.Native.Nat.{ℕ, suc, ◌-◌, ◌/◌, ◌≤◌}
use mathlib.Core.List.{List}
use mathlib.Core.Path.{◌≡◌}
use lib.ListN.{length}
use Rattle.machine.specs.Refusals.{valid, each}
use Rattle.codec.specs.Reader.{block_validity}
use Rattle.codec.proofs.reader.later_blocks.Given as goal

-- the first n of the later blocks are valid
abbrev pub passed : List ℕ → ℕ → Type 0
passed f n = each n (λ k. block_validity f (suc k)) ≡ valid

-- block 0 is not one of them
abbrev pub invariant-loop-i : goal.invariant-loop-i
invariant-loop-i l = passed l.bytes (l.i - 1) × (1 ≤ l.i) × (l.i - 1 ≤ length l.bytes / 512 - 1)
