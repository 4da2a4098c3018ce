-- Lassos, as the code has them.
use Rattle.machine.specs.Lassos as L
use Rattle.machine.specs.Lassos.{given}
use Rattle.brute.specs.declared.lassos.Lasso.{Lasso}

-- the lasso that is lent
abbrev pub lent : Lasso → L.Lasso
lent l = given l.stem.now l.cycle.now
