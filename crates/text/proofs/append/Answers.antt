-- What goes behind the text is the part of the word that there is room for.
use Rattle.std.proofs.Common.{◌∙◌, arith}
use Rattle.std.proofs.lemmas.Result.{IfOk-at_ok}
use Rattle.text.specs.AppendLaws.{put_behind}
use Rattle.text.proofs.append.Goals as goal

pub returns : goal.returns
returns g c =
    let x = c.args in
    IfOk-at_ok _ c.unwrap.ensures c.try_extend_from_slice.ensures.ok
    ∙ put_behind g.row.N x.text.now.items x.word.now (omega (arith, c.remaining_capacity.ensures)) (omega (arith, c.min-end.ensures, c.remaining_capacity.ensures))
