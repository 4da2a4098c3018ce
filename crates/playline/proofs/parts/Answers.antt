-- The first stroke parts the text, and it is a lasso exactly if both parts are plain.
use mathlib.Core.Path.{◌≡◌, refl, sym, ap, ◌∙◌}
use Prim.Native.Nat.{ℕ, suc}
use lib.ListN.{length, take, drop}
use Rattle.std.proofs.Common.{rules, tests, add-one}
use Rattle.mask.specs.Bounded.{below}
use Rattle.mask.specs.LogicLaws.{clash, refute}
use Rattle.mask.proofs.RangeLaws.{position_slice}
use Rattle.playline.specs.Lasso.{stroke_at}
use Rattle.playline.specs.LassoLaws.{stroke_found, behind_stroke, not_found, both_plain, stem_plain, loop_plain}
use Rattle.playline.proofs.parts.Goals as goal
use Rattle.playline.proofs.parts.Goals.{After-position, else-all_plain-via-then-all_plain+else-all_plain-2, else-all_plain-via-else-all_plain}

found : (c : After-position) → c.position.result ≡ below (length c.args.text.now) (stroke_at c.args.text.now)
unfolding stroke_at
found c = position_slice c.position.ensures.ran c.iter.ensures.rest refl (search (rules, tests))

pub returns-in_err-stroke : goal.returns-in_err-stroke
returns-in_err-stroke c =
    let none = not_found c.args.text.now (sym c.in_err-stroke.was ∙ found (goal.at.returns-in_err-stroke c).After-position) in
    rw c.from_residual.ensures none

pub returns-then-all_plain-2 : goal.returns-then-all_plain-2
returns-then-all_plain-2 c =
    let t = c.args.text.now in
    let k = c.in_ok-stroke.stroke in
    let at = stroke_found t (sym c.in_ok-stroke.was ∙ found (goal.at.returns-then-all_plain-2 c).After-position) in
    let cut = behind_stroke t k in (
      both_plain t k at.0 at.1 refl cut (sym c.all_plain.ensures ∙ c.if-all_plain.true) (sym c.all_plain-then-all_plain.ensures ∙ c.if-all_plain-2.true),
      ap (λ (m : ℕ). take m t) at.0,
      cut ∙ ap (λ (m : ℕ). drop m t) (add-one k ∙ ap suc at.0),
    )

pub returns-else-all_plain : goal.returns-else-all_plain
returns-else-all_plain c =
    let t = c.args.text.now in
    let k = c.in_ok-stroke.stroke in
    let at = stroke_found t (sym c.in_ok-stroke.was ∙ found (goal.at.returns-else-all_plain c).After-position) in
    let cut = behind_stroke t k in
    elim c.else-all_plain.branch [
      | else-all_plain-via-then-all_plain+else-all_plain-2 w ↦ refute _ (λ r. clash (sym w.all_plain-then-all_plain.ensures ∙ w.if-all_plain-2.false) (loop_plain t k at.0 at.1 refl cut r))
      | else-all_plain-via-else-all_plain w ↦ refute _ (λ r. clash (sym c.all_plain.ensures ∙ w.if-all_plain.false) (stem_plain t k at.0 at.1 refl cut r))
    ]
