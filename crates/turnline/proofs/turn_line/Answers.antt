-- The invariant: the word, the number and the counts of the sections passed, cut to a line's room.
use Prim.Native.Nat.{ℕ, ◌^◌, ◌<◌}
use lib.ListN.{get_or}
use mir.Val.{Fits}
use mir.Syntax.{w64}
use Rattle.std.proofs.Common.{[], ◌∷◌, take, ap, arith, rules, ◌∙◌}
use Rattle.text.specs.Decimal.{decimal}
use Rattle.text.specs.AppendLaws.{behind, appended_new, last, next}
use Rattle.report.specs.Answers.{line_of}
use Rattle.report.specs.LineLaws.{text_of}
use Rattle.turnline.specs.Lines.{turn_text, turn_line}
use Rattle.turnline.specs.LinesLaws.{told, told_none, told_more, turn_line_lem}
use Rattle.turnline.proofs.turn_line.Goals as goal
use Rattle.turnline.proofs.turn_line.Goals.{Start}

pub loop-j-init : goal.loop-j-init
loop-j-init c =
    let x = c.args in
    let line = appended_new 128 (turn_text ∷ decimal x.t ∷ []) c.new-line.ensures (next c.append.ensures (last c.append_number.ensures)) in
    (search rules, (omega (arith, c.min-n.ensures), line ∙ ap (take 128) (told_none c.matched_masks-matched.result x.family x.t)))

pub section_count-requires : goal.section_count-requires
section_count-requires c = omega (arith, c.loop-j.invariant.1.0)

pub loop-j-preserved : goal.loop-j-preserved
loop-j-preserved c =
    let l = c.loop-j in
    let x = c.args in
    let M = c.matched_masks-matched.result in (
      search rules,
      (
        l.invariant.1.0,
        behind 128 (told M x.family x.t l.j) (32 ∷ decimal c.section_count.result) l.invariant.1.1 c.append_count.ensures
            ∙ ap (take 128) (told_more M x.family x.t l.j c.section_count.result c.section_count.ensures),
      ),
    )

-- the rows are masks of 64 bits
small : (c : Start) (e : ℕ) → get_or c.args.family e 0 < 2 ^ 64
small c e = let f : Fits w64 (get_or c.args.family e 0) = search rules in f.fits

pub returns : goal.returns
returns c =
    let x = c.args in
    let l = c.loop-j in
    let M = c.matched_masks-matched.result in
    let text =
    behind 128 (told M x.family x.t l.j) (10 ∷ []) l.invariant.1.1 c.append_byte.ensures
    ∙ turn_line_lem x.p x.family x.t c.matched_masks-matched.ensures (omega (arith, c.min-n.ensures)) (small (goal.at.returns c).Start) in
    let value = c.line_of.ensures.value ∙ ap line_of text in
    record { value = value; text = text_of (turn_line x.p x.t x.family) value; room = c.line_of.ensures.room }
