-- The counts of the concrete machine are tested first.
use Rattle.std.proofs.Common.{sym, ◌∙◌}
use Rattle.mask.specs.LogicLaws.{and_true_l, and_false_l}
use Rattle.codec.proofs.reader.Counts.hold.Goals as goal

pub returns-then-counts_ok : goal.returns-then-counts_ok
returns-then-counts_ok c = c.counts_ok-then-counts_ok.ensures ∙ sym (and_true_l _ (sym c.counts_ok.ensures ∙ c.if-counts_ok.true))

pub returns-else-counts_ok : goal.returns-else-counts_ok
returns-else-counts_ok c = c.if-counts_ok.false ∙ sym (and_false_l _ (sym c.counts_ok.ensures ∙ c.if-counts_ok.false))
