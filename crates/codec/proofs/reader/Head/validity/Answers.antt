-- The two tests are made in the order of the definition.
use Rattle.std.proofs.Common.{◌≡◌, sym, ap, ◌∙◌}
use Rattle.mask.specs.Logic.{and}
use Rattle.mask.specs.LogicLaws.{not_i, not_f}
use Rattle.machine.specs.WellFormed.{counts_ok}
use Rattle.codec.specs.declared.reader.Counts.{Counts}
use Rattle.codec.specs.Reader.{counts_hold, header_validity}
use Rattle.codec.proofs.reader.Head.validity.Goals as goal
use Rattle.codec.proofs.reader.Head.validity.Goals.{After-hold}

-- what the test of the counts says, of the file
counted : (c : After-hold) → counts_hold c.args.self.now.bytes.now ≡ c.hold.result
unfolding counts_hold
counted c = sym (c.hold.ensures ∙ ap (λ (k : Counts). and (counts_ok 8 k.c k.m) (counts_ok 7 k.a k.n)) c.counts.ensures)

pub returns-then-not-holds : goal.returns-then-not-holds
unfolding header_validity
returns-then-not-holds c = rw (not_i (sym c.holds.ensures ∙ c.if-not-holds.true))

pub returns-then-not-hold : goal.returns-then-not-hold
unfolding header_validity
returns-then-not-hold c =
    rw (not_f (sym c.holds.ensures ∙ c.if-not-holds.false), not_i (counted (goal.at.returns-then-not-hold c).After-hold ∙ c.if-not-hold.true))

pub returns : goal.returns
unfolding header_validity
returns c =
    rw (not_f (sym c.holds.ensures ∙ c.if-not-holds.false), not_f (counted (goal.at.returns c).After-hold ∙ c.if-not-hold.false))
