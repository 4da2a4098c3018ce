-- The section's part of the family is written.
use Rattle.std.proofs.Common.{refl, arith}
use Rattle.solver.specs.FamilyRowsLaws.{part_put}
use Rattle.solver.proofs.put_section.Goals as goal

pub returns : goal.returns
returns c =
    let x = c.args in
    part_put x.family.now x.set.now c.copy_from_slice.new.self x.j _ _ c.requires c.told-family c.told-set refl (omega arith) c.copy_from_slice.ensures.after
