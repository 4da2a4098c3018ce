-- The ways are those of the definition.
use Rattle.std.proofs.Common.{◌*◌}
use borrow.Author.Tests.{le-leb, lt-leb, eq-eqb, ne_eqb}
use Rattle.rows.specs.Entries.{row_count}
use Rattle.rows.proofs.row_count.Goals as goal
use Rattle.rows.proofs.row_count.Goals.{else-nc-le64-via-then-nc-le64+then-na-le64+else-entries-nc, else-nc-le64-via-then-nc-le64+else-na-le64, else-nc-le64-via-else-nc-le64}

pub returns-then-entries-nc : goal.returns-then-entries-nc
unfolding row_count
returns-then-entries-nc c =
    let x = c.args in
    rw (le-leb x.nc 64 c.if-nc-le64.true, le-leb x.na 64 c.if-na-le64.true, eq-eqb x.entries (x.nc * x.na) c.if-entries-nc.true)

pub returns-else-nc-le64 : goal.returns-else-nc-le64
unfolding row_count
returns-else-nc-le64 c =
    let x = c.args in
    elim c.else-nc-le64.branch [
      | else-nc-le64-via-then-nc-le64+then-na-le64+else-entries-nc w ↦ rw (le-leb x.nc 64 w.if-nc-le64.true, le-leb x.na 64 w.if-na-le64.true, ne_eqb x.entries (x.nc * x.na) w.if-entries-nc.false)
      | else-nc-le64-via-then-nc-le64+else-na-le64 w ↦ rw (le-leb x.nc 64 w.if-nc-le64.true, lt-leb x.na 64 w.if-na-le64.false)
      | else-nc-le64-via-else-nc-le64 w ↦ rw (lt-leb x.nc 64 w.if-nc-le64.false)
    ]
