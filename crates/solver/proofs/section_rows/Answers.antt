-- The section's part of the family is read.
use Rattle.std.proofs.Common.{refl, arith}
use Rattle.solver.specs.FamilyRowsLaws.{part_is}
use Rattle.solver.proofs.section_rows.Goals as goal

pub returns : goal.returns
returns c = part_is c.args.family.now c.args.j c.requires c.told-family refl (omega arith) c.copy_from_slice.ensures.after
