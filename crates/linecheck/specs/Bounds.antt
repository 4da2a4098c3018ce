-- A line as a bound: what an entry asks of each step is a partner, in some section, whose entry is at most some number; or it fails before any step.
use Rattle.std.specs.Prelude.{cond, List, Option, Some, None, ℕ, ◌-◌, ◌*◌, get_or, eqb, ltb}
use Rattle.mask.specs.Logic.{not}
use Rattle.mask.specs.Bits.{has_bit}
use Rattle.machine.specs.Ranks.{level_of, set_of}
use Rattle.machine.specs.Table.{blank}
use Rattle.linecheck.specs.declared.Line.{Line}

-- the line of the entry e of (j, c, a), unless it fails before any step; `most` is m × P, `after` the section after j, `matched` the mask of the
-- states that are matched with c
unfoldable pub line_of : ℕ → ℕ → ℕ → ℕ → ℕ → ℕ → ℕ → ℕ → List ℕ → ℕ → Option Line
line_of m most j after c a e matched concrete_sets abstract_set =
    let goal : Option Line = cond (has_bit abstract_set a) (Some (record { section = after; bound = blank - 1 })) None in
    let below = (level_of m e - 1) * m in
    let ranked : Option Line = Some (record { section = j; bound = cond (has_bit (get_or concrete_sets (set_of m e) 0) c) below e }) in
    cond (not (has_bit matched a)) None (cond (ltb most e) None (cond (eqb e 0) goal ranked))
