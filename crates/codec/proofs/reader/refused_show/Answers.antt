-- The reading is the refusal, and both machines beside it are the zero machine.
use mathlib.Core.Path.{refl}
use Rattle.codec.specs.Reader.{zero_pair}
use Rattle.codec.specs.Answers.{read_of, read_beside}
use Rattle.codec.proofs.reader.refused_show.Goals as goal

pub returns : goal.returns
unfolding read_of read_beside zero_pair
returns c = record { answer = refl; machines = rw (c.zero_machine.ensures, c.zero_machine-2.ensures) }
