-- The text is copied to the front of zeros.
use Rattle.std.proofs.Common.{◌∙◌, arith}
use Rattle.report.specs.LineLaws.{copied_line}
use Rattle.report.proofs.line_of.Goals as goal

pub returns : goal.returns
returns c = record {
  value =
      copied_line c.args.grown.now.items _ c.len-length.ensures.value (omega (arith, c.len-length.ensures.value)) (omega arith)
      (c.copy_from_slice.ensures.after ∙ c.deref.ensures.0);
  room = omega (arith, c.len-length.ensures.fits);
}
