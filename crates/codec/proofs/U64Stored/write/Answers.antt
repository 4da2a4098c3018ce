-- The bytes become the number's.
use Rattle.std.proofs.Common.{◌∙◌}
use Rattle.codec.specs.NumberLaws.{given_bytes}
use Rattle.codec.proofs.U64Stored.write.Goals as goal

pub returns : goal.returns
returns c = c.copy_from_slice.ensures.after ∙ c.to_le_bytes.ensures ∙ given_bytes 8 c.args.self
