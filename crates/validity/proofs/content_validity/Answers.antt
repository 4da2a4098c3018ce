-- The tests are made in the order of the definition, and each return is the first that fails.
use mathlib.Core.Path.{◌≡◌, refl, sym, ap, ◌∙◌}
use Prim.Native.Nat.{ℕ}
use lib.ListN.{length}
use borrow.Author.Rules.{rules}
use borrow.Author.Tests.{eq-eqb, ne_eqb, lt-ltb, le-ltb}
use Rattle.std.specs.Prelude.{Err}
use Rattle.mask.specs.Bounded.{below}
use Rattle.mask.specs.BoundedLaws.{below_at, below_past}
use Rattle.machine.specs.Refusals.{Tested}
use Rattle.machine.specs.declared.Refusal.TheVariants.{NoSuccessor}
use Rattle.machine.specs.WellFormed.{first_empty, stuck_state, content_validity}
use Rattle.validity.proofs.content_validity.Goals as goal
use Rattle.validity.proofs.content_validity.Goals.{After-first_empty}

pub returns-then-beyond_counts : goal.returns-then-beyond_counts
unfolding content_validity
returns-then-beyond_counts c = rw (sym c.beyond_counts.ensures ∙ c.if-beyond_counts.true) refl

pub returns-then-m-eq0 : goal.returns-then-m-eq0
unfolding content_validity
returns-then-m-eq0 c = rw (sym c.beyond_counts.ensures ∙ c.if-beyond_counts.false, eq-eqb _ 0 c.if-m-eq0.true) refl

-- a machine's list of successors has room for 64
stuck : (c : After-first_empty) → let m = c.args.m in
    c.first_empty.result ≡ below 64 (stuck_state m.states m.successors)
stuck c =
    let m = c.args.m in
    let room : length m.successors ≡ 64 = search rules in
    c.first_empty.ensures ∙ ap (λ (n : ℕ). below n (first_empty n m.states m.successors)) room

pub returns-in-Some : goal.returns-in-Some
unfolding content_validity
returns-in-Some c =
    let at = below_at 64 _ (sym (stuck (goal.at.returns-in-Some c).After-first_empty) ∙ c.in-Some.is) in
    rw (sym c.beyond_counts.ensures ∙ c.if-beyond_counts.false, ne_eqb _ 0 c.if-m-eq0.false, lt-ltb _ 64 at.1)
    (let refuse : ℕ → Tested = λ s. Err (NoSuccessor c.args.index s) in ap refuse at.0)

pub returns-in-None : goal.returns-in-None
unfolding content_validity
returns-in-None c =
    let past = below_past 64 _ (sym (stuck (goal.at.returns-in-None c).After-first_empty) ∙ c.in-None.is) in
    rw (sym c.beyond_counts.ensures ∙ c.if-beyond_counts.false, ne_eqb _ 0 c.if-m-eq0.false, le-ltb _ 64 past) refl
