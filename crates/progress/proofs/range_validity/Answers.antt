-- Each test that fails is one that the definition asks for.
use Rattle.std.proofs.Common.{sym}
use Rattle.progress.specs.TurnsLaws.{below_sections, above_sections, above_concrete, above_abstract, in_range_lem}
use Rattle.progress.proofs.range_validity.Goals as goal
use Rattle.progress.proofs.range_validity.Goals.{then-section-lt1-via-then-section-lt1, then-section-lt1-via-else-section-lt1+then-p-section, then-section-lt1-via-else-section-lt1+else-p-section+then-p-c, then-section-lt1-via-else-section-lt1+else-p-section+else-p-c+then-p-a}

pub returns-then-section-lt1 : goal.returns-then-section-lt1
returns-then-section-lt1 c =
    let x = c.args in
    elim c.then-section-lt1.branch [
      | then-section-lt1-via-then-section-lt1 w ↦ sym (below_sections x.p x.section x.c x.a w.if-section-lt1.true)
      | then-section-lt1-via-else-section-lt1+then-p-section w ↦ sym (above_sections x.p x.section x.c x.a w.if-p-section.true)
      | then-section-lt1-via-else-section-lt1+else-p-section+then-p-c w ↦ sym (above_concrete x.p x.section x.c x.a w.if-p-c.true)
      | then-section-lt1-via-else-section-lt1+else-p-section+else-p-c+then-p-a w ↦ sym (above_abstract x.p x.section x.c x.a w.if-p-a.true)
    ]

pub returns : goal.returns
returns c =
    let x = c.args in
    sym (in_range_lem x.p x.section x.c x.a c.if-section-lt1.false c.if-p-section.false c.if-p-c.false c.if-p-a.false)
