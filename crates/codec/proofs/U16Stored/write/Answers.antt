-- The bytes become the number's.
use Rattle.std.proofs.Common.{◌∙◌}
use Rattle.codec.specs.NumberLaws.{given_bytes}
use Rattle.codec.proofs.U16Stored.write.Goals as goal

pub returns : goal.returns
returns c = c.copy_from_slice.ensures.after ∙ c.to_le_bytes.ensures ∙ given_bytes 2 c.args.self
