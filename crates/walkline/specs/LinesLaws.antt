-- Laws of the lines: each has room.
use mathlib.Core.List.{[], ◌∷◌, ◌++◌, flatten}
use Rattle.std.specs.Prelude.{◌≡◌, ℕ, ◌≤◌, length, take, get_or, Err, None, Ok, Option, Some}
use Rattle.std.proofs.Common.{append-nil, length-append, ◌∙◌, arith, take_all}
use Rattle.text.specs.Decimal.{decimal}
use Rattle.text.specs.DecimalLaws.{decimal_most}
use Rattle.machine.specs.Refusals.{Answer, number_of, spot_of, four_numbers}
use Rattle.machine.specs.declared.Verdict.{Verdict}
use Rattle.report.specs.Text.{blank_space, outcome_line, numbers_line, refusal_line, verdict_line}
use Rattle.walkline.specs.Lines.{numbered_line}

-- what is said of one file: the longest is a refusal, a word and a blank of eight bytes, four numbers of at most twenty digits, three blanks and a line
-- feed
outcome_most : (said : Answer (Option Verdict)) → length (outcome_line said) ≤ 92
unfolding outcome_line verdict_line refusal_line numbers_line four_numbers
outcome_most (Ok (Some (Verdict.Carried n))) = simp length-append (omega (arith, decimal_most n))
outcome_most (Ok (Some (Verdict.NotCarried c n))) = simp length-append (omega (arith, decimal_most c, decimal_most n))
outcome_most (Ok None) = omega arith
outcome_most (Err r) =
    simp length-append (omega (arith, decimal_most (number_of r), decimal_most (get_or (spot_of r) 0 0), decimal_most (get_or (spot_of r) 1 0), decimal_most (get_or (spot_of r) 2 0)))

pub numbered_line_lem : (file : ℕ) (said : Answer (Option Verdict))
    → take 128 (flatten (decimal file ∷ blank_space ∷ outcome_line said ∷ [])) ≡ numbered_line file said
unfolding numbered_line flatten
numbered_line_lem file said =
    let line = flatten (decimal file ∷ blank_space ∷ outcome_line said ∷ []) in
    let short : length line ≤ 128 = simp length-append (omega (arith, decimal_most file, outcome_most said)) in
    let same : line ≡ decimal file ++ (blank_space ++ outcome_line said) = simp append-nil in
    take_all 128 line short ∙ same
