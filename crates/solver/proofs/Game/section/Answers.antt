-- The pairs of the levels have their ranks, and what else was covered becomes blank.
use mathlib.Core.Path.{◌∙◌}
use Rattle.machine.specs.WellFormedLaws.{well_pair}
use Rattle.rows.specs.WriteLaws.{write_entry_is}
use Rattle.solver.specs.LevelLaws.{section_done}
use Rattle.solver.proofs.Game.section.Goals as goal
use Rattle.solver.proofs.Game.section.Goals.{Start}

pub returns : goal.returns
returns c =
    let w = well_pair c.args.self.now.pair c.args.self.now.prepared.well in
    let l = c.levels-y.ensures in (
      l.0,
      section_done c.args.self.now.prepared c.requires.0 c.requires.1.0 c.requires.1.1 l.0 l.1
          (c.write_entry.ensures ∙ write_entry_is _ _ _ _ _ _ w.concrete.states_high w.abstraction.states_high l.1.bounded.long),
    )
