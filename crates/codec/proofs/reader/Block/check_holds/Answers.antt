-- The stored number and the sum are compared as numbers of 16 bits, which both are.
use Rattle.std.proofs.Common.{◌+◌, ◌-◌, ◌*◌, ap₂, ◌∙◌, arith}
use Rattle.std.proofs.Math.Dec.{eqb}
use Rattle.codec.specs.NumberLaws.{part_number}
use Rattle.codec.specs.FormatLaws.{part_check}
use Rattle.codec.specs.Reader.{check_holds}
use Rattle.codec.proofs.reader.Block.check_holds.Goals as goal

pub returns : goal.returns
unfolding check_holds
returns c =
    let f = c.args.self.now.bytes.now in
    let at = 512 * c.args.self.now.i in
    ap₂ eqb (c.read.ensures ∙ part_number 2 (at + 512 - (at + 510)) f (at + 510) (omega arith)) (c.check_of.ensures ∙ part_check (at + 510 - at) f at (omega arith))
