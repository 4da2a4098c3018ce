use Rattle.std.proofs.Common.{◌∙◌, ◌+◌, ◌*◌, ◌/◌, ◌%◌, rules}
use Rattle.comparison.specs.Turns.{look_ups_tally, look_up_tally}
use Rattle.comparison.proofs.turns.Known.compare_look_ups.Goals as goal

pub returns : goal.returns
unfolding look_ups_tally
returns c =
    let row = c.from.result + 1 in
    let section = (c.from-2.result + 1) * row in
    c.total.ensures (λ i. look_up_tally c.args.self.now c.put_family.new.table c.args.family.now (i / section) (i % section / row) (i % row)) (λ i t l e. search rules)
    ∙ rw (c.put_family.ensures, c.from.ensures, c.from-2.ensures, c.from-3.ensures)
