-- The count, the lowest state without a partner and the test for an empty set are the definition's; which of the two answers is said is the same
-- test.
use Rattle.std.proofs.Common.{◌≡◌, ℕ, ◌≤◌, List, length, get_or, take, eqb, refl, sym, ap, ◌∙◌}
use Rattle.std.proofs.lemmas.List.{get_or-take, length-take-le}
use Rattle.mask.specs.Logic.{not}
use Rattle.mask.specs.Bounded.{count}
use native.Mathlib.Omega.{arith}
use Rattle.mask.specs.BoundedLaws.{count_cong, below_at, below_past}
use Rattle.machine.specs.Machines.{n_c}
use Rattle.machine.specs.WellFormedLaws.{well_pair, pairs_small, entries_small}
use Rattle.machine.specs.Table.{blank, covered_count}
use Rattle.machine.specs.Verdict.{lacking_start}
use Rattle.machine.specs.VerdictLaws.{start_lacking, start_carried}
use Rattle.linecheck.proofs.checked_of_starts.Goals as goal
use Rattle.linecheck.proofs.checked_of_starts.Goals.{in-Some, in-None}

-- the entries that are counted are the table's
front_count : (n : ℕ) (T : List ℕ) → n ≤ length T
    → count (length (take n T)) (λ e. not (eqb (get_or (take n T) e 0) blank)) ≡ count n (λ e. not (eqb (get_or T e 0) blank))
front_count n T h = rw (length-take-le n T h) (count_cong n _ _ (λ i l. ap (λ (x : ℕ). not (eqb x blank)) (get_or-take n T i 0 l)))

pub overflow_mul-nc : goal.overflow_mul-nc
overflow_mul-nc c = let x = c.args in omega (arith, pairs_small x.formed.pair.now (well_pair x.formed.pair.now x.formed.well))

pub overflow_mul-n : goal.overflow_mul-n
overflow_mul-n c = let x = c.args in omega (arith, entries_small x.formed.pair.now (well_pair x.formed.pair.now x.formed.well))

-- as many entries as are counted are in the table
pub slice_bounds-covered_count-end : goal.slice_bounds-covered_count-end
slice_bounds-covered_count-end c = let x = c.args in sym (length-take-le _ x.table.now (omega (arith, entries_small x.formed.pair.now (well_pair x.formed.pair.now x.formed.well), c.requires)))

pub returns-clause-verdict : goal.returns-clause-verdict
unfolding covered_count
returns-clause-verdict c =
    let x = c.args in
    let counted = c.covered_count-covered.ensures ∙ front_count _ x.table.now (omega (arith, entries_small x.formed.pair.now (well_pair x.formed.pair.now x.formed.well), c.requires)) in
    elim c.match-lacking_start.branch [
      | in-Some w ↦
          let lowest = below_at (n_c x.formed.pair.now) (lacking_start x.formed.pair.now x.table.now) (sym c.lacking_start.ensures ∙ w.in-Some.is) in
          w.verdict-is ∙ sym (start_lacking x.formed.pair.now x.table.now _ _ counted lowest.0 (rw lowest.0 lowest.1))
      | in-None w ↦
          w.verdict-is ∙ sym (start_carried x.formed.pair.now x.table.now _ _ counted refl (below_past (n_c x.formed.pair.now) (lacking_start x.formed.pair.now x.table.now) (sym c.lacking_start.ensures ∙ w.in-None.is)))
    ]
