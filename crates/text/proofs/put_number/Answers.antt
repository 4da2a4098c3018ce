-- The digits stand at the end of their array, and are put from the place on.
use mathlib.Core.Path.{◌≡◌, ap, ◌∙◌}
use native.Mathlib.Omega.{arith}
use lib.ListN.{length}
use lib.Seq.{sets}
use Rattle.text.specs.DigitsLaws.{digits_place, digits_start, digits_word}
use borrow.Author.Rules.{rules}
use Rattle.text.proofs.put_number.Goals as goal

pub slice_bounds-put-count : goal.slice_bounds-put-count
slice_bounds-put-count c = digits_start _ _ c.digits_of-digits.ensures

pub slice_bounds-put-start : goal.slice_bounds-put-start
slice_bounds-put-start c = digits_start _ _ c.digits_of-digits.ensures

pub slice_bounds-put-end : goal.slice_bounds-put-end
slice_bounds-put-end c = let full : length c.digits_of-digits.result.bytes ≡ 20 = search rules in omega (arith, full)

pub overflow_sub-result : goal.overflow_sub-result
overflow_sub-result c = digits_start _ _ c.digits_of-digits.ensures

pub returns : goal.returns
returns c =
    let made = c.digits_of-digits.ensures in
    record { count = omega (arith, digits_place _ _ made); bytes = c.put.ensures ∙ ap (sets _ _) (digits_word _ _ made) }
