-- Only well-formed machines are asked for their sections.
use Rattle.std.proofs.Common.{rules, sym, tests, ◌∙◌}
use Rattle.std.specs.Prelude.{true, ◌≡◌}
use Rattle.mask.specs.LogicLaws.{and_true_l}
use Rattle.mask.specs.Bounded.{every}
use Rattle.mask.proofs.RangeLaws.{all_range}
use Rattle.machine.specs.Machines.{sets_a}
use Rattle.machine.specs.WellFormed.{well_formed}
use Rattle.machine.specs.WellFormedLaws.{valid_is_well}
use Rattle.brute.specs.Comparing.{is_exact}
use Rattle.brute.specs.Ranking.{section_ranked, table_ranked}
use Rattle.brute.specs.MachineLaws.{none_refused, some_refused}
use Rattle.brute.specs.RankingLaws.{table_ill}
use Rattle.brute.proofs.ranking.is_ranked.Goals as goal
use Rattle.brute.proofs.ranking.is_ranked.Goals.{Else-is_err}

well : (c : Else-is_err) → well_formed c.args.p ≡ true
well c = valid_is_well _ (sym c.validity.ensures ∙ none_refused _ (sym c.is_err.ensures.value ∙ c.if-is_err.false))

pub returns-then-is_err : goal.returns-then-is_err
returns-then-is_err c =
    let x = c.args in
    let r = some_refused _ (sym c.is_err.ensures.value ∙ c.if-is_err.true) in
    sym (table_ill x.p (is_exact x.compared) x.lifted.now x.table.now r.0 (sym c.validity.ensures ∙ r.1))

pub invariant_of-lifted : goal.invariant_of-lifted
invariant_of-lifted c = record { well = well (goal.at.invariant_of-lifted c).Else-is_err }

pub returns : goal.returns
unfolding table_ranked
returns c =
    let x = c.args in
    let e : c.all.result ≡ every (sets_a x.p) (section_ranked x.p (is_exact x.compared) x.lifted.now x.table.now) = all_range c.all.ensures.ran (search (rules, tests)) in
    e ∙ sym (and_true_l _ (well (goal.at.returns c).Else-is_err))
