-- Laws of an entry's l and k.
use Rattle.std.specs.Prelude.{◌≡◌, ℕ, ◌+◌, ◌-◌, ◌*◌, ◌/◌, ◌<◌}
use Rattle.std.proofs.Common.{mod-lt, div-mul-le_self, arith}
use Rattle.machine.specs.Ranks.{level_of, set_of}

pub set_lt : (m r : ℕ) → 0 < m → set_of m r < m
unfolding set_of
set_lt m r h = mod-lt (r - 1) h

pub level_low : (m r : ℕ) → 0 < level_of m r
unfolding level_of
level_low m r = omega arith

-- the entries of a smaller l are smaller
pub level_below : (m r : ℕ) → (r ≡ 0 → ⊥) → (level_of m r - 1) * m < r
unfolding level_of
level_below m r h =
    let e : (r - 1) / m + 1 - 1 ≡ (r - 1) / m = omega arith in
    rw e (omega (arith, div-mul-le_self (r - 1) m))
