-- The bytes are read as the definition reads them.
use Rattle.std.proofs.Common.{List, ℕ, ap, ◌∙◌}
use Rattle.codec.specs.Format.{number_at}
use Rattle.codec.specs.NumberLaws.{read_is}
use Rattle.codec.proofs.U64Stored.read.Goals as goal

pub returns : goal.returns
returns c = c.from_le_bytes.ensures ∙ read_is 7 c.copy_from_slice.new.self ∙ ap (λ (s : List ℕ). number_at 8 s 0) c.copy_from_slice.ensures.after
