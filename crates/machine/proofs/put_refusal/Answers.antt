-- Four writes from place 0 on are one run of four numbers.
use mathlib.Core.List.{List}
use mathlib.Core.Path.{◌≡◌, sym, ap, ◌∙◌}
use Prim.Native.Nat.{ℕ}
use lib.ListN.{length}
use borrow.Author.Rules.{rules}
use Rattle.std.proofs.lemmas.List.Edits.{sets}
use Rattle.machine.specs.RefusalsLaws.{four_is}
use Rattle.machine.proofs.put_refusal.Goals as goal

pub returns : goal.returns
returns g c =
    let four = c.four-four.result in
    let long : length four ≡ 4 = search rules in
    ap (λ (l : List ℕ). sets c.args.spot.now 0 l) (sym (four_is four long) ∙ c.four-four.ensures)
