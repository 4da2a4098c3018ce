-- The three parts are asked in the order of the definition.
use Rattle.std.proofs.Common.{rules, sym, tests, ◌∙◌}
use Rattle.std.specs.Prelude.{◌≡◌}
use Rattle.mask.specs.LogicLaws.{clash, or_false_l, or_l, or_r}
use Rattle.mask.specs.Bounded.{some}
use Rattle.mask.proofs.RangeLaws.{any_range}
use Rattle.machine.specs.WellFormed.{is_beyond_counts, set_beyond, state_beyond}
use Rattle.brute.proofs.machines.is_past.Goals as goal
use Rattle.brute.proofs.machines.is_past.Goals.{else-has_past, then-has_past}

pub returns-then-any : goal.returns-then-any
unfolding is_beyond_counts
returns-then-any c =
    let m = c.args.m.now in
    elim c.if-has_past.branch [
      | then-has_past w ↦ w.value-is ∙ w.if-has_past.true ∙ sym (or_l _ (sym c.has_past.ensures ∙ w.if-has_past.true))
      | else-has_past w ↦
          let e : w.any.result ≡ some 64 (state_beyond m.states m.observations m.successors) = any_range w.any.ensures.ran (search (rules, tests)) in
          c.if-any.true ∙ sym (or_r _ (or_l _ (sym e ∙ sym w.value-is ∙ c.if-any.true)))
    ]

pub returns-else-any : goal.returns-else-any
unfolding is_beyond_counts
returns-else-any c =
    let m = c.args.m.now in
    let sets : c.any-else-any.result ≡ some 8 (set_beyond m.states m.sets m.fairness) = any_range c.any-else-any.ensures.ran (search (rules, tests)) in
    elim c.if-has_past.branch [
      | then-has_past w ↦ absurd (clash c.if-any.false (w.value-is ∙ w.if-has_past.true))
      | else-has_past w ↦
          let e : w.any.result ≡ some 64 (state_beyond m.states m.observations m.successors) = any_range w.any.ensures.ran (search (rules, tests)) in
          sets ∙ sym (or_false_l _ (sym c.has_past.ensures ∙ w.if-has_past.false) ∙ or_false_l _ (sym e ∙ sym w.value-is ∙ c.if-any.false))
    ]
