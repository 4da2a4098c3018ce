-- The note is the byte that the definition has.
use Rattle.codec.specs.Format.{header}
use Rattle.codec.specs.WriterLaws.{note_byte}
use Rattle.codec.proofs.writer.header.Goals as goal

pub returns : goal.returns
unfolding header
returns c = rw (note_byte c.args.with_table)
