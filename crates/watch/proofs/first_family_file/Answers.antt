-- The first family, or the refusal's four numbers: what the two cases of the definitions say.
use mathlib.Core.Path.{sym, ap, ◌∙◌}
use Rattle.std.specs.Prelude.{List, ℕ}
use Rattle.machine.specs.Refusals.{Answer, answer_in, spot_after}
use Rattle.watch.specs.WatchingLaws.{first_told, first_none, first_spot}
use Rattle.watch.proofs.first_family_file.Goals as goal

pub returns-in-Some : goal.returns-in-Some
returns-in-Some c =
    let x = c.args in
    let made = c.first_family_bytes.ensures.answer in
    let given = first_told x.bytes.now x.family.now (ap answer_in (sym made) ∙ sym c.told.ensures.value ∙ c.in-Some.is) in
    record {
      number = sym given.0;
      rows = given.1;
      numbers = c.told.ensures.numbers ∙ ap (λ (v : Answer (List ℕ)). spot_after v x.spot.now) made ∙ first_spot x.bytes.now x.family.now x.spot.now;
    }

pub returns-in-None : goal.returns-in-None
returns-in-None c =
    let x = c.args in
    let made = c.first_family_bytes.ensures.answer in
    let none = first_none x.bytes.now x.family.now (ap answer_in (sym made) ∙ sym c.told.ensures.value ∙ c.in-None.is) in
    record {
      number = sym none.0;
      rows = none.1;
      numbers = c.told.ensures.numbers ∙ ap (λ (v : Answer (List ℕ)). spot_after v x.spot.now) made ∙ first_spot x.bytes.now x.family.now x.spot.now;
    }
