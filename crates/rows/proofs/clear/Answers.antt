use Rattle.std.proofs.Common.{◌∙◌, ap}
use Rattle.std.proofs.lemmas.List.{get_or-replicate}
use Rattle.std.specs.Prelude.{ℕ, List, length, get_or}
use Rattle.mask.specs.TablesLaws.{fill_done}
use Rattle.machine.specs.Table.{blank}
use Rattle.rows.proofs.clear.Goals as goal

pub returns : goal.returns
returns c =
    let n = length c.args.part.now in
    fill_done 0 n c.fill.new.self (λ e. blank) c.fill.ensures.len
    (λ k l. ap (λ (xs : List ℕ). get_or xs k 0) (c.fill.ensures.after (λ y h. h)) ∙ get_or-replicate n k blank 0 l)
