use Rattle.std.proofs.Common.{sym, ◌∙◌, ◌+◌, ◌-◌, arith}
use Rattle.std.proofs.lemmas.Grind.{common_steps}
use Rattle.mask.specs.Logic.{and}
use Rattle.comparison.specs.LassosLaws.{fits_all}
use Rattle.comparison.proofs.lassos.run_fits.Goals as goal
use Rattle.comparison.proofs.lassos.run_fits.Goals.{else-is_run, then-is_run}

pub returns-then-is_play : goal.returns-then-is_play
unfolding and
returns-then-is_play c = elim c.if-is_run.branch [
  | then-is_run w ↦ sym (fits_all _ _ _ _ _ _ (c.args.run.stem + c.args.run.cycle - c.args.run.stem) (omega arith) (omega arith) c.is_run.ensures w.is_play.ensures c.same_until.ensures ∙ rw (w.if-is_run.true, sym w.value-is ∙ c.if-is_play.true))
  | else-is_run w ↦ grind (arith, common_steps)
]
