-- The text's length, or the refusal's four numbers.
use mathlib.Core.Path.{ap, ◌∙◌}
use Prim.Native.Nat.{ℕ}
use Rattle.std.specs.Prelude.{Option, unwrap_or}
use Rattle.machine.specs.Refusals.{Answer, answer_in, spot_after}
use Rattle.codec.specs.Answers.{length_of}
use Rattle.codec.specs.AnswersLaws.{length_told}
use Rattle.export.proofs.hoa_file.Goals as goal

pub returns : goal.returns
returns c =
    let made = c.text_bytes.ensures in
    record {
      value = c.unwrap_or.ensures ∙ ap (λ (o : Option ℕ). unwrap_or o 0) c.told.ensures.value ∙ length_told _ ∙ ap length_of made.answer;
      content = made.content;
      numbers = c.told.ensures.numbers ∙ ap (λ (a : Answer ℕ). spot_after a c.args.spot.now) made.answer;
    }
