-- The header's bytes are the counts.
use Rattle.std.proofs.Common.{Bool, ap₂, ◌∙◌}
use Rattle.codec.specs.declared.reader.Counts.{Counts}
use Rattle.codec.specs.Format.{payload_length}
use Rattle.codec.specs.Reader.{payload_demanded}
use Rattle.codec.proofs.reader.Head.payload_demanded.Goals as goal

pub returns : goal.returns
unfolding payload_demanded
returns c = record {
  value = c.payload_length.ensures.value ∙ ap₂ (λ (k : Counts) (note : Bool). payload_length k.c k.a k.m k.n note) c.counts.ensures c.note.ensures;
  small = c.payload_length.ensures.small;
}
