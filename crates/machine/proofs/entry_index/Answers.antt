-- Each remainder is below 256, whichever number it is of, so that no product or sum overflows.
use Prim.Native.Nat.{ℕ, ◌+◌, ◌*◌, ◌%◌, ◌≤◌}
use mathlib.Core.Path.{refl}
use mir.Syntax.{w64}
use mir.Val.{Fits}
use native.Mathlib.Omega.{arith}
use Rattle.machine.specs.WellFormedLaws.{mul_bound}
use Rattle.machine.specs.Table.{entry_index, place_of}
use Rattle.machine.proofs.entry_index.Goals as goal

rest : (x : ℕ) → x % 256 ≤ 255
rest x = omega arith

section : (x y : ℕ) → x % 256 * (y % 256) ≤ 65025
section x y = mul_bound (x % 256) (y % 256) 255 255 (rest x) (rest y)

row : (x y z u : ℕ) → (x % 256 * (y % 256) + z % 256) * (u % 256) ≤ 16646400
row x y z u = mul_bound (x % 256 * (y % 256) + z % 256) (u % 256) 65280 255 (omega (arith, section x y, rest z)) (rest u)

section_fits : (x y : ℕ) → Fits w64 (x % 256 * (y % 256))
section_fits x y = omega (arith, section x y)

state_fits : (x y z : ℕ) → Fits w64 (x % 256 * (y % 256) + z % 256)
state_fits x y z = omega (arith, section x y, rest z)

row_fits : (x y z u : ℕ) → Fits w64 ((x % 256 * (y % 256) + z % 256) * (u % 256))
row_fits x y z u = omega (arith, row x y z u)

place_fits : (x y z u v : ℕ) → Fits w64 ((x % 256 * (y % 256) + z % 256) * (u % 256) + v % 256)
place_fits x y z u v = omega (arith, row x y z u, rest v)

pub overflow_mul-result : goal.overflow_mul-result
overflow_mul-result c = section_fits _ _

pub overflow_add-result : goal.overflow_add-result
overflow_add-result c = state_fits _ _ _

pub overflow_mul-result-2 : goal.overflow_mul-result-2
overflow_mul-result-2 c = row_fits _ _ _ _

pub overflow_add-result-2 : goal.overflow_add-result-2
overflow_add-result-2 c = place_fits _ _ _ _ _

pub returns : goal.returns
unfolding place_of entry_index
returns c = refl
