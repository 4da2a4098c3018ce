use Rattle.std.proofs.Common.{ap, ◌∙◌}
use Rattle.std.specs.Prelude.{is_some}
use Rattle.brute.specs.ScanLaws.{some_found}
use Rattle.brute.proofs.runs.Rounds.recurs.Goals as goal

pub returns : goal.returns
returns c = c.is_some.ensures ∙ ap is_some c.earlier_round.ensures ∙ some_found c.args.y _
