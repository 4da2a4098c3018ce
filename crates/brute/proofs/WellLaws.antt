-- What the ghost fields of a well-formed pair give.
use Rattle.machine.specs.WellFormedLaws.{WellPair, well_pair}
use Rattle.machine.specs.declared.Formed.{Formed}
use Rattle.brute.specs.declared.lines.Tabled.{Tabled}

pub well_in : (f : Formed) → WellPair f.pair.now
well_in f = well_pair f.pair.now f.well

pub well_of : (t : Tabled) → WellPair t.pair.now
well_of t = well_pair t.pair.now t.well
