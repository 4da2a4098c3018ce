-- The block lies in the file, so its first two bytes are the number found.
use Rattle.std.proofs.Common.{◌+◌, ◌-◌, ◌*◌, ◌∙◌, arith}
use Rattle.codec.specs.NumberLaws.{part_number}
use Rattle.codec.specs.Reader.{number_found}
use Rattle.codec.proofs.reader.Block.number_found.Goals as goal

pub returns : goal.returns
unfolding number_found
returns c = let at = 512 * c.args.self.now.i in c.read.ensures ∙ part_number 2 (at + 2 - at) c.args.self.now.bytes.now at (omega arith)
