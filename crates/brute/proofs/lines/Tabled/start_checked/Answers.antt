-- The lowest start state that lacks a partner tells which answer it is; both have the count.
use Rattle.std.proofs.Common.{sym, ◌∙◌}
use Rattle.std.proofs.Math.Path.{refl}
use Rattle.mask.specs.BoundedLaws.{below_at, below_past}
use Rattle.machine.specs.Machines.{n_c}
use Rattle.machine.specs.VerdictLaws.{start_carried, start_lacking}
use Rattle.brute.proofs.lines.Tabled.start_checked.Goals.{in-Some, in-None}
use Rattle.brute.proofs.lines.Tabled.start_checked.Goals as goal

pub returns-clause-verdict : goal.returns-clause-verdict
returns-clause-verdict c =
    let x = c.args in
    elim c.match-lacking_start.branch [
      | in-Some w ↦
          let at = below_at (n_c x.self.now.pair.now) _ (sym c.lacking_start.ensures ∙ w.in-Some.is) in
          w.verdict-is ∙ sym (start_lacking x.self.now.pair.now x.self.now.table.now _ _ c.covered-covered.ensures at.0 (rw at.0 at.1))
      | in-None w ↦ w.verdict-is ∙ sym (start_carried x.self.now.pair.now x.self.now.table.now _ _ c.covered-covered.ensures refl (below_past (n_c x.self.now.pair.now) _ (sym c.lacking_start.ensures ∙ w.in-None.is)))
    ]
