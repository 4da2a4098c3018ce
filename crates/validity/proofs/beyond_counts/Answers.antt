-- The three tests stand in the order of the definition; each return is the first that holds, and the last is the third test itself.
use Rattle.std.proofs.Common.{◌≡◌, ℕ, ap, sym, ◌∙◌, length, rules}
use Rattle.mask.specs.Bounded.{some}
use Rattle.mask.specs.LogicLaws.{or_l, or_false_l}
use Rattle.machine.specs.WellFormed.{set_beyond, is_beyond_counts}
use Rattle.validity.proofs.beyond_counts.Goals as goal

pub returns-then-has_beyond : goal.returns-then-has_beyond
unfolding is_beyond_counts
returns-then-has_beyond c = sym (or_l _ (sym c.has_beyond.ensures ∙ c.if-has_beyond.true))

pub returns-then-states_beyond : goal.returns-then-states_beyond
unfolding is_beyond_counts
returns-then-states_beyond c =
    sym (or_false_l _ (sym c.has_beyond.ensures ∙ c.if-has_beyond.false)
    ∙ or_l _ (sym c.states_beyond.ensures ∙ c.if-states_beyond.true))

pub returns : goal.returns
unfolding is_beyond_counts
returns c =
    let m = c.args.m in
    let room : length m.fairness ≡ 8 = search rules in
    sym (or_false_l _ (sym c.has_beyond.ensures ∙ c.if-has_beyond.false)
    ∙ or_false_l _ (sym c.states_beyond.ensures ∙ c.if-states_beyond.false)
    ∙ sym (c.masks_beyond.ensures ∙ ap (λ (n : ℕ). some n (set_beyond m.states m.sets m.fairness)) room))
