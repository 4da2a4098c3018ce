use borrow.Author.Tests.{eq-eqb, ne_eqb}
use Rattle.brute.specs.Numbers.{entry_of}
use Rattle.brute.proofs.numbers.entry_of.Goals as goal

pub returns-then-d-eq0 : goal.returns-then-d-eq0
unfolding entry_of
returns-then-d-eq0 c = rw (eq-eqb _ 0 c.if-d-eq0.true)

pub returns-else-d-eq0 : goal.returns-else-d-eq0
unfolding entry_of
returns-else-d-eq0 c = rw (ne_eqb _ 0 c.if-d-eq0.false)
